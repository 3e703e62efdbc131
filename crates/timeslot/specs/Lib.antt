pub mod Timeslot
pub mod Share

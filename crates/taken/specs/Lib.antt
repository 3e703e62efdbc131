pub mod Taken
pub mod Judged

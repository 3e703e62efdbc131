pub mod Paging
pub mod Answered
pub mod Harvest

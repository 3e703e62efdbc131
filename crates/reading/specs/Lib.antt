pub mod Reading
pub mod Paging

pub mod Serving
pub mod Decided

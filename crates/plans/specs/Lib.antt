pub mod Plan
pub mod Kept
pub mod Made

pub mod TakeLaws
pub mod JudgeLaws

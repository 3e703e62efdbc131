-- What each call does step by step, for the crates above it.
-- Assumes nothing.
pub mod CallMir

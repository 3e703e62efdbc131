-- The laws of this crate, for the crates above it.
-- Assumes nothing.
pub mod WriteLaws

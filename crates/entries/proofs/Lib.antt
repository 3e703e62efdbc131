-- The laws of this crate, for the crates above it.
-- Assumes nothing.
pub mod RunLaws
pub mod BackLaws
pub mod EntryLaws

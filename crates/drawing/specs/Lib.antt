-- The definitions that the contracts of this crate cite.
-- Assumes nothing.
pub mod Drawing

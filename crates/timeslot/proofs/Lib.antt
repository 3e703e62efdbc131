-- The laws of this crate, for the crates above it.
-- Assumes nothing.
pub mod ByteLaws
pub mod TimeslotLaws
pub mod CallLaws
pub mod BothWaysLaws

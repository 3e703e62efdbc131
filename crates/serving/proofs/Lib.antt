-- What each call does step by step, and the words that the crates above write their own steps with.
-- Assumes nothing.
pub mod MirWords
pub mod ListMir

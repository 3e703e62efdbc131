pub mod BelowLaws
pub mod PackedLaws

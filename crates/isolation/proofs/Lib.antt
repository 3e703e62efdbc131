-- The laws of this crate.
-- Assumes nothing.
pub mod PlaceLaws
pub mod OneLaws
pub mod KeepLaws
pub mod IsolationLaws
pub mod DemandLaws

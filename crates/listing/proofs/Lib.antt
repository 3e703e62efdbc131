-- The laws of this crate.
-- Assumes nothing.
pub mod RoomLaws
pub mod PagingLaws
pub mod ListLaws

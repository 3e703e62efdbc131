pub mod SeenLaws
pub mod GapLaws
pub mod ItemLaws

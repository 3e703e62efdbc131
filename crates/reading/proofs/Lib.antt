pub mod ItemLaws
pub mod ReadingLaws
pub mod PageLaws
pub mod FillLaws
pub mod HarvestLaws
pub mod GrowthLaws

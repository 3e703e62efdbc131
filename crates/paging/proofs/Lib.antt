pub mod PagedLaws
pub mod HarvestLaws
pub mod UnseenLaws

pub mod StayLaws
pub mod EndLaws
pub mod PollLaws

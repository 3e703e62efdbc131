pub mod TapLaws
pub mod ParityLaws
pub mod RightLaws

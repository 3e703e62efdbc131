pub mod CodingLaws

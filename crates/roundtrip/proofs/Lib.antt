pub mod ShownLaws
pub mod RoundLaws
pub mod OwnLaws
pub mod PageWriteLaws

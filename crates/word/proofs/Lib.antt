pub mod MaskLaws
pub mod OctetLaws
pub mod FieldLaws

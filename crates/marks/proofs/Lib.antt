pub mod MarkLaws
pub mod NameLaws

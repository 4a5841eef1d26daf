pub mod MessageLaws
pub mod NameLaws
pub mod WriteLaws
pub mod Examples

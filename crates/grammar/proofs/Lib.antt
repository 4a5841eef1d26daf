pub mod BlankLaws
pub mod ReadLaws
pub mod TextLaws
pub mod TokenLaws
pub mod WholeLaws

pub mod LexLaws
pub mod CharacterLaws
pub mod ReadLaws
pub mod OpenerLaws

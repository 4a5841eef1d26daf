pub mod AnswerLaws
pub mod CompareLaws

pub mod RowLaws
pub mod ForestLaws
pub mod NodeLaws
pub mod AtomLaws
pub mod EvalLaws
pub mod ReadBackLaws
pub mod AskedLaws

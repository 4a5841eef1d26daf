pub mod ErrorLaws
pub mod NumberLaws
pub mod LengthLaws
pub mod Examples

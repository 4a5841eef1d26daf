pub mod WordLaws
pub mod LengthLaws
pub mod Examples

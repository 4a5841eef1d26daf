pub mod Answer
pub mod Error

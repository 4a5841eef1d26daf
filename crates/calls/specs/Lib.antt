pub mod Answer
pub mod Integer
pub mod Numbers

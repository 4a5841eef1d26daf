pub mod Message
pub mod Write
pub mod Parts

pub mod File
pub mod Noise

pub mod Words
pub mod Member

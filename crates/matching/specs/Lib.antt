pub mod Words
pub mod Search
pub mod Steps

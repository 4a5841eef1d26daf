pub mod Instance
pub mod Places

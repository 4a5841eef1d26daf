pub mod Abi
pub mod Numbers

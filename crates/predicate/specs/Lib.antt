pub mod Truth
pub mod Rows
pub mod Eval
pub mod Atoms

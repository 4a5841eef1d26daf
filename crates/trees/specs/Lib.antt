pub mod Green
pub mod Look
pub mod Parse
pub mod Rows
pub mod Writing
pub mod Read

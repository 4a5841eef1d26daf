pub mod Image
pub mod Check
pub mod CheckScan
pub mod WellFormed
pub mod Boards
pub mod Compared

pub mod Append
pub mod Text
pub mod Items
pub mod Place

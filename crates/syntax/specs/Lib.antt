pub mod Form
pub mod Forms
pub mod Kind
pub mod Kinds
pub mod Refusal
pub mod Text
pub mod Table
pub mod Utf8

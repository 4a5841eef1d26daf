pub mod Grammar
pub mod Blanks
pub mod Trees
pub mod Texts

pub mod BoolLaws
pub mod EveryByte
pub mod TextLaws
pub mod TableLaws
pub mod Utf8Laws
pub mod LibraryLaws

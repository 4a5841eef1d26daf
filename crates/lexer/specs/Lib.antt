pub mod Bytes
pub mod Lex
pub mod LexScan
pub mod Read
pub mod Tokens

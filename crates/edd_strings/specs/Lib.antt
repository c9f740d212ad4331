pub mod Parts
pub mod Strings

pub mod Contents
pub mod Existing
pub mod Fields
pub mod Front
pub mod Layout
pub mod Strings
pub mod Versions

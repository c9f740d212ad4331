pub mod Lines
pub mod Runs
pub mod Scripts
pub mod Terminal

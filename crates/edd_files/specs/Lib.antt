pub mod Names
pub mod Saves

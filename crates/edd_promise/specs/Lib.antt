pub mod Embedded
pub mod Meant
pub mod Plays
pub mod Reads
pub mod Sessions

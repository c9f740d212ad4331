pub mod Disks
pub mod Ways

pub mod Along
pub mod Faults
pub mod Told
pub mod Words

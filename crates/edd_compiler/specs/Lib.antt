pub mod Faults
pub mod Images
pub mod Lowering
pub mod Sources
pub mod Words

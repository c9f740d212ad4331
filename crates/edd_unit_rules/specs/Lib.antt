pub mod BrokenRule
pub mod Depths
pub mod Marks
pub mod Standing
pub mod Walks

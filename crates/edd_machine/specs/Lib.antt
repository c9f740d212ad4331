pub mod AbortLists
pub mod Faults
pub mod Given
pub mod Outcomes
pub mod Running
pub mod Types

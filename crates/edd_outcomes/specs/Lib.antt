pub mod Expected
pub mod Outcomes

pub mod Breaches
pub mod Found
pub mod Verdicts

pub mod Done
pub mod Reasons
pub mod Refusals
pub mod Runs
pub mod Saved
pub mod Statuses

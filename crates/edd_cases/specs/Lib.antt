pub mod Ends
pub mod Renewed

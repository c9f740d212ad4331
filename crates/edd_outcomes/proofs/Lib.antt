pub mod Counting
pub mod Meeting
pub mod Printing

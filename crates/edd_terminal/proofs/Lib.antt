pub mod Entries
pub mod Reached
pub mod Records
pub mod SaidAlike
pub mod Tries
pub mod ValuesKept
pub mod Views

pub mod Words
pub mod Records
pub mod Shown
pub mod Found
pub mod Played
pub mod Written

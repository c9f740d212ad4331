pub mod Told
pub mod Units

pub mod Images
pub mod Lookups
pub mod Octets
pub mod Playing
pub mod Reading
pub mod Records
pub mod Sessions
pub mod Statuses

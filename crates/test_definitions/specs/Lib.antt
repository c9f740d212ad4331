pub mod Arrays
pub mod Bytes
pub mod Collections
pub mod Layouts
pub mod Methods
pub mod Texts
pub mod Units

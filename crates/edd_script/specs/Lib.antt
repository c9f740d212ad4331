pub mod Lines
pub mod Named
pub mod Numbers
pub mod Said
pub mod Scripts
pub mod Words

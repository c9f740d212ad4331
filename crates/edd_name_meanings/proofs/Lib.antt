pub mod Gathering
pub mod MapLaws
pub mod PathLaws
pub mod UseCases
pub mod UseLaws

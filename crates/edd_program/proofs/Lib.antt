pub mod ReasonLaws
pub mod RunLaws
pub mod StatusLaws

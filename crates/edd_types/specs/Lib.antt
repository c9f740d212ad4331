pub mod Attributes
pub mod Breaks
pub mod Conditionals
pub mod Expressions
pub mod Labels
pub mod Rules

pub mod Conditionals
pub mod Expressions
pub mod Shortening
pub mod ValuesShorten

pub mod KnownForms
pub mod KnownParts

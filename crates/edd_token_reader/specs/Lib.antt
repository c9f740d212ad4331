pub mod SingleTokens
pub mod Qualifiers
pub mod Views
pub mod TokenTexts
pub mod Words

pub mod Fronts
pub mod QualifierLoops
pub mod TokenTexts

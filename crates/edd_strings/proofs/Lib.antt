pub mod Marks
pub mod Numbering
pub mod Pieces
pub mod Sameness
pub mod Spelling
pub mod Unescaping
pub mod Validity

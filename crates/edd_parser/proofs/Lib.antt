pub mod ClassNames
pub mod Parsed
pub mod TypeEnds
pub mod RowLoops

pub mod CondLoops
pub mod Loops
pub mod ArgumentHeights
pub mod Shortening
pub mod RowsShorten

pub mod Comments
pub mod Same

pub mod Advances
pub mod Edits
pub mod Found
pub mod Happens
pub mod Replies
pub mod Screens
pub mod Sittings
pub mod Standing

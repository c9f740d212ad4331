pub mod CommentEnds
pub mod SameKinds

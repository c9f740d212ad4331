pub mod ItemSteps
pub mod MemberLaws
pub mod ReadingLaws
pub mod ResolvingLaws

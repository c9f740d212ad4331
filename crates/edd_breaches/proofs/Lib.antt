pub mod AlongLaws
pub mod BrokenLaws
pub mod TellLaws

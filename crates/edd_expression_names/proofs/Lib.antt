pub mod BranchSteps
pub mod Copying
pub mod CopyingIn
pub mod ExprSteps
pub mod TokenSteps

pub mod DeclaratorSteps
pub mod StatementSteps
pub mod TokenSteps

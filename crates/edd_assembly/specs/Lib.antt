pub mod Assembly
pub mod LoweredUnits
pub mod RowContents
pub mod Views

pub mod FrontRead
pub mod LayoutFields
pub mod LayoutRows
pub mod StringsRead

pub mod Explained
pub mod Held
pub mod Offered
pub mod Sets
pub mod ShownLines
pub mod TopMarks

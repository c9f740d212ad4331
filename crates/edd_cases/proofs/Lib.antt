pub mod Pieces
mod Suffixes

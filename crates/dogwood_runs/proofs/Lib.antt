pub mod Separators
pub mod Pieces

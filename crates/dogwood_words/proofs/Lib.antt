pub mod Bools
pub mod Founds
pub mod RowSteps
pub mod GapSteps
pub mod Words
pub mod Chunks

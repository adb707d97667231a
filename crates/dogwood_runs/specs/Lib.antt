pub mod Separators
pub mod Promises

pub mod Symbol
pub mod Promises

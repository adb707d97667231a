pub mod Standing
pub mod Promises

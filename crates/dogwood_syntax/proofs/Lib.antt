pub mod Filling
pub mod Promise

pub mod Brackets
pub mod Records
pub mod Search
pub mod Rows
pub mod Promises

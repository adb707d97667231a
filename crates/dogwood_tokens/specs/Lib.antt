pub mod Token
pub mod Cursor
pub mod Tokens
pub mod Scan
pub mod Promises

pub mod Held
pub mod Word
pub mod Letters
pub mod Written
pub mod Replays

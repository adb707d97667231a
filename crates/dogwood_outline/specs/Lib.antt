pub mod Pass
pub mod Verdicts
pub mod Numbers
pub mod Table
pub mod Judges

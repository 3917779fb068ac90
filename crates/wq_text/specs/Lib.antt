pub mod Lines
pub mod Comments
pub mod Words
pub mod Runs
pub mod Numbers
pub mod Refusal
pub mod Limits
pub mod LineText

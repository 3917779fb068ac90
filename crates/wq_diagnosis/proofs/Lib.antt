mod Forbidding
mod Found
pub mod Lines
pub mod ReadTexts

pub mod Diagnosis
pub mod Refused
pub mod Words
pub mod Unlawful
pub mod Reasons

pub mod Cuts
pub mod Places
pub mod Links

pub mod Fault
pub mod Meter
pub mod Input
pub mod Shell
pub mod Stopped

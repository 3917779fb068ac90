pub mod Waits
pub mod Calls
pub mod CrewLemmas

pub mod Locking
pub mod RefusedMaking
pub mod Closings
pub mod TakenTurns
pub mod IdleLanes
pub mod Words

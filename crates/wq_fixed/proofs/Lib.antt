pub mod StartLanes
pub mod StartKeeps
pub mod Kept
pub mod Fewest
pub mod ChainsOfStart

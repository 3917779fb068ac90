pub mod Declarations
pub mod Lanes
pub mod Heads
pub mod Among
pub mod Regrouped
pub mod Together
pub mod Partitions
mod MarkLemmas
mod NoteLemmas
mod NumberLemmas
mod FirstLists

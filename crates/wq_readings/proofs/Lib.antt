pub mod DecisionLemmas
pub mod NeededFlushes
pub mod Picking
pub mod ReadingPlans

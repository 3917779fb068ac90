pub mod AssignmentText
pub mod Movers
pub mod ReadBack
pub mod Repairing

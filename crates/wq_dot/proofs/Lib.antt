pub mod Pieces
pub mod Lines
pub mod Workqueues
pub mod Arrows
pub mod Sums
pub mod Counts
pub mod Marked
pub mod Placed
pub mod Found
pub mod CommentCounts
pub mod WithinLimits
pub mod SharedNames
mod OneDrawing
mod BoldRed

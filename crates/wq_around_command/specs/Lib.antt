pub use Rattle.wq_fixed.specs.Fixed
pub mod Planning
pub mod Checking
pub mod Promise
pub mod PrintedChecked
pub mod Saying

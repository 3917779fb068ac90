pub use Rattle.wq_groups.specs.Declaration
pub use Rattle.wq_groups.specs.Assignment
pub use Rattle.wq_core.specs.Workqueues
pub use Rattle.wq_core.specs.Deadlock
pub mod Fixed

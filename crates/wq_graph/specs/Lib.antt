pub use Rattle.wq_items.specs.Chain
pub use Rattle.wq_groups.specs.Declaration
pub use Rattle.wq_groups.specs.Assignment
pub mod Graph
pub mod Building

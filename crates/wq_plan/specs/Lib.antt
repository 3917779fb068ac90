pub use Rattle.wq_groups.specs.Declaration
pub use Rattle.wq_groups.specs.Assignment
pub use Rattle.wq_graph.specs.Graph
pub use Rattle.wq_levels.specs.Walks
pub mod Plan
pub mod LongestChain
pub mod CircleOfGroups
pub mod Solve

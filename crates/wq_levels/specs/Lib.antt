pub use Rattle.wq_items.specs.Chain
pub use Rattle.wq_graph.specs.Graph
pub mod Ranks
pub mod Walks
pub mod Taking
pub mod Ranked

pub mod ListLemmas
pub mod Arcs
pub mod BuildingLemmas
pub mod Graphs
pub mod LeavingOut
mod OwnVertices

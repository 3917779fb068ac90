pub mod ContextLemmas
pub mod Doing
pub mod Executions
pub mod Handovers
pub mod Making

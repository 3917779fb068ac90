pub mod Calls
pub mod Layouts
pub mod Projections
pub mod Contexts
pub mod WaitsRefused
pub mod LaneBells

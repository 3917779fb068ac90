pub use Rattle.wq_commands.specs.Answer
pub use Rattle.wq_held.specs.Closing
pub use Rattle.wq_rescuer.specs.Contexts
pub use Rattle.wq_rescuer.specs.Serving
pub mod Report
pub mod Running
pub mod Run
pub mod Fault

pub use Rattle.wq_cert.specs.Texts
pub mod Comments
pub mod Messages
pub mod Names

-- The names of calls, replies and errors that most proofs of this crate and those above cite. Declares nothing.
pub use Rattle.wq_history.specs.declared.asking.Subject.{Subject}
pub use Rattle.wq_history.specs.declared.asking.Subject.TheVariants.{Item as OfItem, Lane as OfLane}
pub use Rattle.wq_history.specs.declared.call.Call.{Call}
pub use Rattle.wq_history.specs.declared.call.Call.TheVariants.{Ask, Cancel, CancelSync, Close, Drain, Finish, Over}
pub use Rattle.wq_history.specs.declared.call.Call.TheVariants.{Queue, Start, Told, Wait}
pub use Rattle.wq_history.specs.declared.call.Flush.{Flush}
pub use Rattle.wq_history.specs.declared.call.Reply.{Reply}
pub use Rattle.wq_history.specs.declared.call.Reply.TheVariants.{Done, NotYet, Wrote, WroteTwo}
pub use Rattle.wq_history.specs.declared.fault.BookError.{BookError}
pub use Rattle.wq_history.specs.declared.fault.BookError.TheVariants.{OutOfMemory, TooManyRows}
pub use Rattle.wq_history.specs.declared.fault.CallError.{CallError}
pub use Rattle.wq_history.specs.declared.fault.CallError.TheVariants.{Closed, HistoryFull, NoItem, NotAsked}
pub use Rattle.wq_history.specs.declared.fault.CallError.TheVariants.{TooManyWaits, Undeclared, WrongLane}
pub use Rattle.wq_history.specs.declared.sleepers.Wake.{Wake}

pub mod HangLemmas
pub mod HoldLemmas
pub mod HoldPromised
pub mod HoldTaking
pub mod Promised
pub mod Taking

pub mod AtPlaces
pub mod KeptLanes
pub mod Leading
pub mod Once
pub mod Turned
pub mod Searched
pub mod Walked
pub mod Settled
pub mod Completed
pub mod Joined
pub mod Loops
pub mod OfAssigned
pub mod OnCircles
pub mod InOrder
pub mod Safe
pub mod Rounds
mod Answered
pub mod Promised
mod Printed
pub mod Found
pub mod ForBare
mod FirstItems
mod NoDifference
mod AllRescued
mod HeldLists
mod HeldSearch
pub mod HeldMarks
mod HeldCounts
mod HeldBetween
pub mod HeldWalks
pub mod HeldPromised
pub mod FoundFor

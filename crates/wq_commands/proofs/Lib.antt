pub mod AnswerLemmas
pub mod CircleRuns
pub mod Examples
pub mod Existence
pub mod TextLength
pub mod Uniqueness
pub mod CheckLemmas
pub mod InputLemmas
pub mod CommandLemmas
pub mod JudgeLemmas
pub mod SameRescuers
pub mod AllRescued
mod PlansJudged
mod HangLemmas
pub mod NamedLemmas
pub mod NamedSteps
mod DeclaredLines
pub mod DeclaredLemmas
pub mod PromiseLemmas
pub mod Refusals
pub mod CheckAnswers
pub mod ReplayAnswers
pub mod LineLemmas
pub mod FoundLemmas
mod StopLemmas
mod SameTexts
mod Telling
pub mod SamePlaces
pub mod ReadingLemmas
pub mod FewestHangs
pub mod VerdictPromises

pub mod Begun
pub mod CommentLemmas
pub mod CutLemmas
pub mod LimitLaws
pub mod LineLemmas
pub mod LineTextLemmas
pub mod LongLines
pub mod NumberLemmas
pub mod PieceLaws
pub mod PieceLemmas
pub mod SliceLaws
pub mod WordLaws
pub mod WordLemmas
mod PlainLines
mod RunLemmas

pub mod KeywordLemmas
pub mod NameLemmas
pub mod FaultLemmas
pub mod OrderedLemmas
pub mod OriginLemmas
pub mod RowLemmas
pub mod TextLemmas

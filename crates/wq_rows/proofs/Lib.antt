pub mod PackingLemmas
pub mod StoredLemmas

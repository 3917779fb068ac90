mod TableLemmas
mod NumberLemmas

pub mod DrillLemmas
pub mod NameLemmas

pub mod PairLemmas
pub mod ListLemmas
pub mod LineTextLemmas
pub mod JobLemmas
pub mod StatusLemmas
pub mod FaultKindLemmas

mod PathLemmas
mod WalkLemmas
mod TableLemmas
mod TakenLemmas
mod CutLemmas
mod CollectionLemmas
mod RoutedLemmas
mod RequestLemmas
pub mod AloneLemmas
mod EachLemmas
mod AskLemmas
pub mod LimitLemmas
mod ReportLemmas
mod ResponseLemmas
mod SpellingLemmas
mod RowsRequests
mod RowsReplies

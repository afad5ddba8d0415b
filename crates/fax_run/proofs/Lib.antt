pub mod ReadingLemmas
pub mod OneVerdictLemmas
mod OneRunLemmas
pub mod RowsRuns
mod RowsCounts
pub mod AcceptedLemmas
mod EachVerdictLemmas
mod RepeatLemmas
pub mod LedgerLemmas
pub mod RunLemmas
mod PastLemmas
mod CountLemmas
mod MoveLemmas
mod BroughtLemmas
mod SumLemmas
pub mod OnceLemmas
mod GrantLemmas
pub mod SessionsLemmas
mod RowsSessions
mod ProgressLemmas
mod RowsOneList
mod RowsProgress
mod RowsReading
mod RowsView
pub mod NameLemmas
pub mod FedLemmas

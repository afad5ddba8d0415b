pub mod RowsWorker
pub mod RowsTraces
mod RowsSaid
mod DialLemmas
mod QueueLemmas
mod StandLemmas
mod HandleLemmas
pub mod TraceLemmas
mod BoundLemmas
mod JobLemmas
mod OrderLemmas
mod JoinLemmas
mod ActingLemmas
mod ReasonLemmas
pub mod JsonLemmas
mod SayingLemmas
mod AnswerLemmas
mod OnlyLemmas

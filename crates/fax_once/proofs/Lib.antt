pub mod SenderLemmas
pub mod VerdictLemmas
pub mod RequestLemmas
mod StopLemmas
mod GetLemmas
pub mod HandledLemmas
pub mod JoinLemmas
pub mod SessionsLemmas
mod SaidLemmas
mod CauseLemmas
mod LookingLemmas
pub mod BatchLemmas
mod AnsweringLemmas
mod ShutLemmas
mod RowsLeft
mod KnownLemmas
mod GivenLemmas

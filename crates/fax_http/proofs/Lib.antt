mod AnswerLemmas
mod DeviceLemmas
pub mod DivisionLemmas
mod ExchangeLemmas
mod FieldLemmas
mod MessageLemmas
mod PhraseLemmas
pub mod ServingLemmas
mod WholeLemmas
pub mod TurnLemmas

mod ArriveLemmas
mod OneReplayLemmas
mod ReplayingLemmas
pub mod ServedLemmas
mod TurnsLemmas
mod TogetherLemmas
mod RowsTurns

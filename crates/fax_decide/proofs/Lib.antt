pub mod WorkLemmas
pub mod FaultLemmas
mod DecisionLemmas
mod LinesLemmas
mod RecordLemmas
mod CallLemmas
mod EndLemmas
mod JobLemmas
mod NewJobLemmas
mod TimesLemmas
mod PurgeLemmas
mod ViewLemmas
mod NewestLemmas
mod ReportLemmas
mod ChoiceLemmas
mod GivenLemmas
mod KeptLemmas
mod LookingLemmas
pub mod FreeLemmas
pub mod NumberedLemmas

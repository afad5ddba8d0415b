pub mod RowWords
pub mod RowsGrants
pub mod RowsClients
pub mod RowsRefusals
pub mod RowsPhases
pub mod RowsOrder
pub mod RowsFields
pub mod RowsListed
mod RowsGaps
mod RowsTimes
mod RowsPurge
pub mod PlaceLemmas
pub mod TimesLemmas
pub mod StampLemmas
pub mod KeepLemmas
pub mod LeaveLemmas
pub mod RangeLemmas
pub mod DecisionLemmas
pub mod ImportLemmas
pub mod BestLemmas
pub mod StepLemmas
pub mod PageLemmas
pub mod PurgeLemmas
pub mod GrantLemmas
mod MadeLemmas
mod PastLemmas
mod OwnLemmas
pub mod BroughtLemmas
pub mod ClockLemmas
pub mod NumberLemmas
pub mod GoneLemmas
pub mod FitsLemmas
pub mod RefusalLemmas
mod ReasonLemmas
pub mod ReportLemmas
pub mod ChangeLemmas
pub mod RecordLemmas
pub mod NewJobLemmas
pub mod LawfulLemmas
pub mod OldJobLemmas
pub mod ReadImportLemmas

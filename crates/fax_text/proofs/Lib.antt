pub mod CivilLemmas
pub mod ListingLemmas
pub mod OptionWords
pub mod OrderLemmas
pub mod RefusedWords
pub mod ReplayWords
mod RowsCivil
mod RowsLines
mod RowsListing
mod RowsTimes
pub mod RowsSendfax
mod RowsWords
pub mod SendfaxLemmas
pub mod TimeLemmas
pub mod TimesLemmas
pub mod WordsLemmas

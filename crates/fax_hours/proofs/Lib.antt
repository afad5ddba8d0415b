pub mod HoursLemmas
pub mod ZoneLemmas

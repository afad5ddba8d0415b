mod CourseLemmas
mod PostingLemmas
mod SavedLemmas
mod WorkingLemmas

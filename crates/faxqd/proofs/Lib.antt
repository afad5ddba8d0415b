mod CheckLemmas
mod EndsLemmas
mod ListLemmas
mod RestartsLemmas
mod RowsRestarts
mod SayingLemmas
mod ServeLemmas

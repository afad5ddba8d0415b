mod DatabaseLemmas
mod RowsLines
mod ShownLemmas
mod SpoolLemmas

pub mod NumberLemmas
pub mod ValueLemmas
pub mod DialLemmas
pub mod BlankLemmas
mod CommaLemmas

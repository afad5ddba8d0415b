pub mod CutLemmas
pub mod SetupLemmas
pub mod FaultLemmas
pub mod PatternLemmas
pub mod ControlsLemmas
pub mod FinderLemmas
pub mod GrammarLemmas

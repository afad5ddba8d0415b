pub mod Ending
pub mod FaultLine

pub mod Entry
pub mod Columns
pub mod Schema
pub mod Journal
pub mod Meaning
pub mod Calls

pub mod Reading
pub mod Spells

pub mod Consistent
pub mod Whole
pub mod Sound
pub mod Reading
pub mod Holders
pub mod Pass
pub mod Check
pub mod Meant

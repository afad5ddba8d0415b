pub mod Days
pub mod Range
pub mod Item
pub mod Hours
pub mod Zone

pub mod Schema
pub mod Way

pub mod Tables
pub mod Shape
pub mod ByRowid
pub mod Stop

pub mod Notice
pub mod Rule

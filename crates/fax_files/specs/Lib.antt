pub mod Database
pub mod FaultLine
pub mod Office
pub mod Shown
pub mod Spool

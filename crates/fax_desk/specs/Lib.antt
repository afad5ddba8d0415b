pub mod Conversing
pub mod Desk
pub mod Replaying
pub mod Turns
pub mod Laws

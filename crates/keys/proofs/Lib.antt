pub mod Options
pub mod Orders
pub mod Reduced
pub mod Finds
pub mod Places

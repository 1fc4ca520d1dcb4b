pub mod Order
pub mod Kinds
pub mod Least
pub mod Places

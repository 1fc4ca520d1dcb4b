pub mod Releases
pub mod Shares

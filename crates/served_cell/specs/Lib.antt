pub mod Counts
pub mod Promised

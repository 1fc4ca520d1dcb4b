pub mod Counting
pub mod Getting
pub mod Adding
pub mod Places
pub mod Table

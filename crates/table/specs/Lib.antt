pub mod Places
pub mod Joiners

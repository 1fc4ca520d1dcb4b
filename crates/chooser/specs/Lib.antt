pub mod Limits
pub mod Offers
pub mod Picks
pub mod Places
pub mod Meaning
pub mod Tellings

pub mod Made
pub mod Sound
pub mod Picks
pub mod Meant

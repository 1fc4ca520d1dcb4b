pub mod Events
pub mod Playing
pub mod Promised

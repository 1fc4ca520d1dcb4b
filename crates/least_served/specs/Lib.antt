pub mod Served
pub mod Meaning
pub mod Stops
pub mod Laws

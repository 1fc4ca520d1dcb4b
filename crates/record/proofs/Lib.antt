pub mod Numbers
pub mod Parsing
pub mod Trips
pub mod Putting
pub mod Finding

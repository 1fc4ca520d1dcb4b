pub mod Tallies
pub mod Words
pub mod Listing
pub mod Ends

pub mod Largest
pub mod Laws
pub mod Meaning
pub mod Ratios

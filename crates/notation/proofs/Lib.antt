pub mod Fronts
pub mod Prices
pub mod Notes
pub mod Forms
pub mod Trips

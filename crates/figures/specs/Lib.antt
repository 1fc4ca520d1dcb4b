pub mod Bounds
pub mod Run
pub mod Twelfth
pub mod Figures

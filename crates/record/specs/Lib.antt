pub mod Letters
pub mod Layout
pub mod Reading
pub mod Writing
pub mod Laws
pub mod Lines
pub mod Putting

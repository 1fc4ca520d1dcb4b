pub mod Taken
pub mod One
pub mod Reading
pub mod Left
pub mod Limit

pub mod Misreads
pub mod Words
pub mod Short
pub mod Front
pub mod Calls
pub mod Reading
pub mod Texts

pub mod Reading
pub mod Going
pub mod Taking

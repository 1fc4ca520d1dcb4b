pub mod Sized
pub mod Zeros
pub mod Steps
pub mod Telling
pub mod Turning
pub mod Asking
pub mod Joining
pub mod Passing

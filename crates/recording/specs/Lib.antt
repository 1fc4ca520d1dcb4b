pub mod Taking
pub mod Failures
pub mod Recordings

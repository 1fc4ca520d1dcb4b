pub mod Making
pub mod Failing

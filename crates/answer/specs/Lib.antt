pub mod Numbers
pub mod Names

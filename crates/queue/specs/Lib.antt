pub mod Fifo
pub mod Ring
pub mod Waiting

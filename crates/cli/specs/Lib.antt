pub mod Statuses
pub mod Sources
pub mod Progressing
pub mod Choosing

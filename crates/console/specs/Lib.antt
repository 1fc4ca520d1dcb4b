pub mod Words
pub mod Commands
pub mod Replies
pub mod Talks

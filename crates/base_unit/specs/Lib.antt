pub mod View
pub mod Numbers
pub mod Made
pub mod Outs
pub mod Feed
pub mod Zero

pub mod Balances
pub mod Words
pub mod Ends
pub mod Sheets
pub mod Jobs

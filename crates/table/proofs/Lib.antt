pub mod Chains
pub mod Dues
pub mod Numbers
pub mod Offering
pub mod Tables

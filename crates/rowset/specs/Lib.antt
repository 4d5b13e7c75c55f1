pub mod Iterating
pub mod Member
pub mod Bits
pub mod Words
pub mod Rows
pub mod Search
pub mod Visits
pub mod Setting

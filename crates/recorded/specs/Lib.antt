pub mod Journal
pub mod Recorded
pub mod Open

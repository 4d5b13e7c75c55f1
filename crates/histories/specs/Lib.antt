pub mod Marks
pub mod Shares
pub mod Paths
pub mod Places
pub mod Turns

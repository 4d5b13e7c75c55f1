pub mod Places
pub mod Lent
pub mod Posts
pub mod Runs
pub mod Starts
pub mod Clocks
pub mod Cells

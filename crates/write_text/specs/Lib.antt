pub mod Runs
pub mod Ends
pub mod Inner
pub mod Rows
pub mod Whole

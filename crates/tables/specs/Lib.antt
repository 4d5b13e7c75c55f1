pub mod Ranges
pub mod Actions
pub mod Parts
pub mod Sets

pub mod Sizes
pub mod Tags
pub mod Paid
pub mod Names
pub mod Cells

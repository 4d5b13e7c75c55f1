pub mod Cells
pub mod Tags

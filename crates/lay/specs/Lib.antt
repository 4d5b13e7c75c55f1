pub mod Sizes
pub mod Copies
pub mod Names

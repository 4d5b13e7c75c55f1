pub mod Copies
pub mod Zeros

pub mod Bins
pub mod Binned

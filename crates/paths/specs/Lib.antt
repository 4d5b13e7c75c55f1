pub mod Paths
pub mod History
pub mod Lengths
pub mod Timing

pub mod Parts
pub mod Ended
pub mod Ids
pub mod Faults

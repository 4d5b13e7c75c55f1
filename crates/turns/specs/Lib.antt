pub mod Spots
pub mod Turns
pub mod Next

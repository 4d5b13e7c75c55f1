-- A fault stands where R-1 asks for it (1.13): from Levels to FirstFault.
pub mod Levels
pub mod Values
pub mod Completing
pub mod Reached
pub mod Viable
pub mod FirstFault

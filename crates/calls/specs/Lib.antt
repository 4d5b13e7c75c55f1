pub mod Calls
pub mod Performing
pub mod Follows
pub mod Reading
pub mod Kept
pub mod Turns
pub mod InPlace

pub mod First
pub mod Slots
pub mod Walk

pub mod Stored
pub mod Targets
pub mod Initial
pub mod Entry
pub mod Plan
pub mod Words

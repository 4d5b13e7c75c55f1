pub mod Spelling
pub mod Matching
pub mod Slots
pub mod Blank
pub mod Bytes

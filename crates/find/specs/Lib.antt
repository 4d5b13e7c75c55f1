pub mod Types
pub mod Digits
pub mod Items

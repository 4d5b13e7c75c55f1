pub mod Least
pub mod Balanced
pub mod Ids
pub mod Roots
pub mod Rooted

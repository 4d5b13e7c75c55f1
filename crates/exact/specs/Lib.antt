pub mod Fallen
pub mod Nesting

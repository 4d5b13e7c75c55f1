pub mod Facts
pub mod Appended
pub mod Clean

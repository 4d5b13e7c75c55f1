pub mod Parents
pub mod Ancestry

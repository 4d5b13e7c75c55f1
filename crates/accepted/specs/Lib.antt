pub mod Tree
pub mod Fork
pub mod Unions
pub mod NameFacts
pub mod Sound

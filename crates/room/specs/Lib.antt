pub mod Rounds
pub mod Sums
pub mod Room
pub mod Entries
pub mod Enough
pub mod Adding
pub mod Most

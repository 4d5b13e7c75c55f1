pub mod Again
pub mod Ledger
pub mod Leaves
pub mod Replays
pub mod Making
pub mod Keeps
pub mod Theorems

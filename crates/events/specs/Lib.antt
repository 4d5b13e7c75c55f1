pub mod Choosers
pub mod Rounds
pub mod Joining
pub mod Choosing
pub mod Entries
pub mod Timers
pub mod Left

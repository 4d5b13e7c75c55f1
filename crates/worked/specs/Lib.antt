pub mod Play
pub mod Choosers
pub mod Histories
pub mod Branches

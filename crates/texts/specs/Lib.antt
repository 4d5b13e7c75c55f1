pub mod Opened
pub mod Faults
pub mod Refusals
pub mod Charts
pub mod Calls

pub mod Filled
pub mod Transitions
pub mod Lists
pub mod Starts

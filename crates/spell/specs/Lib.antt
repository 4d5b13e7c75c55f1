pub mod Laid
pub mod Digits
pub mod Ready
pub mod Lists
pub mod Sends
pub mod Actions
pub mod Blocks

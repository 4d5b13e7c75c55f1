pub mod State
pub mod Words
pub mod Found
pub mod Numbers
pub mod Places

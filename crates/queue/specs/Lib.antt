pub mod Queues
pub mod Places

pub mod Judged
pub mod Outcomes

pub mod History
pub mod Domain
pub mod Conflicts
pub mod FixedDomains
pub mod Ready
pub mod Kept
pub mod Choosers

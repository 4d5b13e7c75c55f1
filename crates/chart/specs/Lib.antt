pub mod Ready
pub mod Within
pub mod Columns
pub mod Writing
pub mod Inside
pub mod Agree
pub mod Own
pub mod Readers

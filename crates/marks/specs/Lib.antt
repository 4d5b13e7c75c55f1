pub mod Marks
pub mod Told
pub mod Walks
pub mod Grouped
pub mod Joined
pub mod Strides

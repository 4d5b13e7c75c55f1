pub mod Program
pub mod Alike
pub mod Cuts
pub mod Bounds

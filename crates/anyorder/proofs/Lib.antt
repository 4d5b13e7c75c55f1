-- R-13's second half over the definition (AnyOrder), by one transition more (OneMore).
pub mod OneMore
pub mod AnyOrder

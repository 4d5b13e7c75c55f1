-- The definition: Tables, Grammar. What follows from it, that a fault stands where R-1 asks for it (1.13): Words, and in proofs/ Levels to FirstFault.
pub mod Tables
pub mod Grammar
pub mod Words

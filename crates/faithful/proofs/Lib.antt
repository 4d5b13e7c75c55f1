-- What follows of the program and the plain follower (specs/: Program, Alike): demand 3, cuts, any order, the marked runs.
pub mod Faithful
pub mod Completed
pub mod Demand3
pub mod CutRuns
pub mod AnyOrder
pub mod ChartA
pub mod MarkedRuns

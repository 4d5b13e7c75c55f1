-- What a text of the grammar means, in this order: its tags with their places, their faults, the rows and transitions that they say, tables and answer, the call;
-- and the text that is written for a chart (R-4).
pub mod Zones
pub mod Tags
pub mod Faults
pub mod Content
pub mod Layout
pub mod Calls
pub mod Print

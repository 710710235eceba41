pub mod Says
pub mod Sinks
pub mod Pens
pub mod Counts
pub mod Joins
pub mod Short

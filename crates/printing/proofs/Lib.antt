pub mod Prints
pub mod Front
pub mod Notes

pub mod Keys
pub mod Packed

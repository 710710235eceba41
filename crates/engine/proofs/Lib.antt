pub mod Pressing
pub mod Turns

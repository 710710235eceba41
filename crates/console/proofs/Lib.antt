pub mod Keeping
pub mod Refusal
pub mod Making

pub mod Failed
pub mod Kept
pub mod Made

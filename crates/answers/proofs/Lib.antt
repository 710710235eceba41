pub mod Small
pub mod Reasons
pub mod Plans

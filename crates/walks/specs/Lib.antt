-- the list's guards
pub mod Square
-- the least walks by sets
pub mod Sets
pub mod Walked
pub mod Filled
-- the walks joined at the last position
pub mod Around
pub mod Joined

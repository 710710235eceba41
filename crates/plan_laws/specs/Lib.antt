-- orders and packing, by any rule and by the lowest start
pub mod Arranged
pub mod Pack
pub mod Lowest
-- plans
pub mod Good
pub mod Apart
pub mod Plans
pub mod Heights
pub mod Bound
pub mod Short
pub mod Judge
pub mod Fits
pub mod Reason
-- orders tried, and the shortest walk
pub mod Walks
-- what an answer of 0 means
pub mod Answers
-- the loops of the code
pub mod Clash
pub mod Engine
pub mod Arranging
pub mod Greedy
pub mod Growing
pub mod Improve
pub mod Runs
pub mod Passes
pub mod Sided
pub mod Alike
pub mod Spreading

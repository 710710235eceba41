-- docs/RULES.md as definitions, in its order.
-- Tables and limits: RULES 3; the scans: RULES 18
pub mod Tables
pub mod Limits
pub mod Scan
-- Plans: RULES 4 to 10, and 12
pub mod Plan
pub mod Packing
pub mod Pressing
pub mod Sides
pub mod Planning
pub mod Floor
-- Why a path stands where it stands: RULES 25
pub mod Reason
-- The sheet: RULES 13 to 15
pub mod Text
pub mod Sheet
pub mod Writing
-- The grid and the order sheet: RULES 27
pub mod Grid
-- The numbers and the order of the tests: RULES 17 and 18
pub mod Numbers
pub mod Refusing
pub mod Told
-- The calls, and all that each one leaves behind: RULES 16, and 11
pub mod Calls
pub mod Better
-- The plan program, and the ask program: RULES 19 and 26
pub mod Program
pub mod Asking
-- The figures: RULES 20, and 25 to 27
pub mod Figures
pub mod Asked
pub mod Ordered

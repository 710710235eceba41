-- plans
pub mod Press
pub mod Reason
pub mod Mirror
pub mod Floor
pub mod Met
pub mod TwoSided
pub mod Finding
-- the calls as they answer
pub mod OnJudging
pub mod OnPacking
pub mod OnImproving
pub mod OnSiding
pub mod OnPlanning
pub mod OnPressing
pub mod OnFlooring
pub mod OnBetter
pub mod OnExplaining
-- no second answer, what the calls answer by computation, and programs that are unfit
pub mod OneAnswer
pub mod Witness
pub mod Worked
pub mod Unfit
-- what is written is read back
pub mod Writable
pub mod Kept
pub mod RoundTrip
pub mod GuardTrip
pub mod SheetTrip
pub mod SameBytes
pub mod Longest
pub mod ReadBack
-- demand 1: what a call refuses, and what a refusal leaves
pub mod Tests
pub mod Words
pub mod OnRefusing
pub mod OnAccepting
pub mod OnLeaving
pub mod OnShort
-- the sheet's lines and the program
pub mod Forms
pub mod OnLines
pub mod OnReading
pub mod ReadCells
pub mod OnProgram
pub mod OnAsking
pub mod LongestSheet
pub mod SheetForm
-- the grid and the order sheet (RULES 27): numbers, what is accepted and written, and the longest
pub mod Grid
pub mod Orderable
pub mod LongestOrder
-- its lines, what is read back, and written back
pub mod OrderForms
pub mod OnOrderLines
pub mod OrderTrip
pub mod OrderBack
-- the calls as they answer, and programs that are unfit
pub mod OnOrdering
pub mod OrderTests
pub mod OrderUnfit
-- how many bytes of a text its answer depends on, and the ask program
pub mod OrderBytes
pub mod OrderCut
pub mod OnOrderAsking

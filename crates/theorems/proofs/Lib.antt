-- lists and membership
pub mod Lists
pub mod Members
pub mod Closed
-- a refusal's number
pub mod Refusals
-- the buffers of a door
pub mod Buffers
-- plain proofs: what they prove is true, and what is derived they prove
pub mod Arguments
pub mod Soundness
pub mod Certified
-- the interpreter and the rules, and demand 2 of the evaluator
pub mod Ran
pub mod Obeys
pub mod Costs
pub mod Exact
pub mod Accepting
-- reading, and demand 2 of the checker
pub mod Reading
pub mod Checking
-- reading back what was written
pub mod ReadBack
pub mod Spelling
pub mod Listing
pub mod RecordsBack
pub mod ProofsBack
pub mod RoundTrip
-- the limits of a certificate
pub mod Bounds
pub mod Pool
pub mod Inside
pub mod Reach
pub mod Counting
pub mod Limits
pub mod Sheets
pub mod Answers
-- a sheet's bytes grown
pub mod Places
pub mod InTurn
pub mod Frames
pub mod Parsed
pub mod Grown
pub mod Parted
-- demand 3
pub mod Diluted
pub mod Standing
-- how long a sheet and a certificate can be
pub mod Spans
pub mod Longest
-- what demand 2 shuts out
pub mod ShutOut

-- The laws of `sheets`: digits and the numbers that they say (Digits), one line and the lines behind it (OneLine), what reading means
-- (Meaning), what the code finds, gathers and puts (Scan, Tasks, Puts), there and back (Back), computed sheets (Examples), and
-- that each promise allows one reply (OneReply). Assumes nothing.
pub mod Digits
pub mod OneLine
pub mod Meaning
pub mod Scan
pub mod Tasks
pub mod Puts
pub mod Back
pub mod Examples
pub mod OneReply

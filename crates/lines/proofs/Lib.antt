-- The laws of `lines`: how long a line can be (Longest), what reading promises (Reading), serving (ServedLines), serving in parts
-- (Parts), what serving leaves (Rest), the calls that an input asks for (Asked), the records that ask for them (Sent), document 01's
-- whole case as it is read (Case), that a line has one newline (Newline) and shows one reply (Shown), that serving makes these calls and
-- writes the lines of their replies (Answered for a part, Answers for the whole input), and that the promises allow one reply
-- (OneReply). Assumes nothing.
pub mod Longest
pub mod Reading
pub mod ServedLines
pub mod Parts
pub mod Rest
pub mod Asked
pub mod Sent
pub mod Case
pub mod Newline
pub mod Shown
pub mod Answered
pub mod Answers
pub mod OneReply

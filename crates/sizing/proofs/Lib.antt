-- The laws of `sizing`: what waits and is answered of bytes served in one piece (Waiting), and lines answered into the room (Lines); then
-- what a run means (Meaning). Assumes nothing.
pub mod Waiting
pub mod Lines
pub mod Meaning

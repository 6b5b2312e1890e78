-- The laws of `text`: the digits of a number (Figures), what is written one after the other (Writing), and that each promise allows one
-- reply (OneReply). Assumes nothing.
pub mod Figures
pub mod Writing
pub mod OneReply

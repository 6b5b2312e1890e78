-- The laws that the proofs of this crate's functions cite, computed lines (Examples), and the theorem that each promise allows one reply (OneReply). Assumes nothing.
pub mod Pieces
pub mod Words
pub mod Numbers
pub mod Lines
pub mod Tasks
pub mod Fields
pub mod Alike
pub mod AlikeTasks
pub mod Meaning
pub mod Examples
pub mod Replies
pub mod Writing
pub mod OneReply

-- The laws that the functions' proofs cite, and the theorems. Assumes nothing.
pub mod Paper
pub mod Offset
pub mod Tags
pub mod Cases
pub mod Laid
pub mod Written
pub mod Digits
pub mod Fields
pub mod Rows
pub mod Back
pub mod Behind
pub mod OneReply
pub mod Exactly
pub mod Again

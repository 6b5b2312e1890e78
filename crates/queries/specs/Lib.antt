-- The definitions that the contracts of this crate cite, in reading order: the lines that are written, and what a line means.
-- Assumes nothing.
pub mod Text
pub mod Meaning
pub mod Private

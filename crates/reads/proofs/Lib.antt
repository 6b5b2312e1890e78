-- The laws that every program's loop rests on: bytes moved to the front (Moving), why a program ends (Reasons), the bytes that came
-- (Brought), the goes of serving a part (Goes), the rounds of a run (Runs); and that each promise allows one reply (OneReply).
-- Assumes nothing.
pub mod Moving
pub mod Reasons
pub mod Brought
pub mod Goes
pub mod Runs
pub mod OneReply

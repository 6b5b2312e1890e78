-- The laws of `card`: a go of serving a part (Goes), and what a run means (Meaning). Assumes nothing.
pub mod Goes
pub mod Meaning

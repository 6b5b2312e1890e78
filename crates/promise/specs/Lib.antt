-- The sentence "any two replies allowed by one promise are equal", for every crate. Assumes nothing.
pub mod OneReply

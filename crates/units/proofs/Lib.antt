-- That each promise allows one reply. Assumes nothing.
pub mod OneReply

-- What the contracts of this crate cite beside the definitions of `model`: the answers as the paper's replies (Paper), and what private
-- functions promise each other (Private). Assumes nothing.
pub mod Paper
pub mod Private

-- What the contracts of `sheets` cite: a sheet and its lines (Sheet), what a `Sheet` of the code keeps (Kept), the answers as the paper's
-- replies (Paper), what the definitions mean (Meaning), and what private functions promise each other (Private). Assumes nothing.
pub mod Sheet
pub mod Kept
pub mod Paper
pub mod Meaning
pub mod Private

-- What the contracts of `sales` cite: the answer to an input (Sales), and the program (Program); and what a run means (Meaning).
-- Assumes nothing.
pub mod Sales
pub mod Program
pub mod Meaning
pub mod Laws

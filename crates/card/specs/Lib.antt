-- What the contracts of `card` cite: what its machine makes of some bytes, and the program (Program); what a run means (Meaning); and the
-- laws of a machine (Laws). Assumes nothing.
pub mod Program
pub mod Meaning
pub mod Laws

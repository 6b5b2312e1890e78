-- What the programs make of their reads: the reads and the bytes that came (Reads), a run of a program (Program), and the programs that serve
-- by a machine (Machine). Assumes nothing.
pub mod Reads
pub mod Program
pub mod Machine

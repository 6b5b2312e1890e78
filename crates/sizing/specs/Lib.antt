-- What the contracts of `sizing` cite: the answers to lines, what the machine makes of some bytes, and the program (Program); what a run means
-- (Meaning); a go of answering (Goes); and the laws of a machine (Laws), with what they rest on: lines cut and joined (Cutting), and served
-- in one piece (Serving). Assumes nothing.
pub mod Program
pub mod Meaning
pub mod Goes
pub mod Cutting
pub mod Serving
pub mod Laws

-- What the contracts of `lines` cite: the text of a line (Text), and serving a part of the input (Serve), and in parts (Parts); then
-- what it means: the calls that an input asks for (Asked), and what is answered (Answers). Assumes nothing.
pub mod Text
pub mod Serve
pub mod Parts
pub mod Asked
pub mod Answers

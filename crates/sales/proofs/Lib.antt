-- The laws of `sales`: the fields of tasks and the lines of a sheet (Tasks), an answer behind its form's name (Naming), the parts of an
-- input (Parts), a question and its own fields (Asking), what a run means (Meaning),
-- and computed answers (Examples). Assumes nothing.
pub mod Tasks
pub mod Naming
pub mod Parts
pub mod Meaning
pub mod Asking
pub mod Examples

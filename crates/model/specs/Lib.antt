-- Document 01, "Supply, demand, least share", rows 30 to 36 and the sizing examples, in reading order. Meaning and Table say the same as
-- plain statements. Numbers are plain numbers here, however large. Assumes nothing.
pub mod Search
pub mod Form
pub mod Supply
pub mod Demand
pub mod Share
pub mod Reply
pub mod Rows
pub mod Meaning
pub mod Asked
pub mod Table
pub mod Forms
pub mod Examples

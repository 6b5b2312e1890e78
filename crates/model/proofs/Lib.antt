-- The theorems on what the definitions mean (Meaning), when each reply is given (Table, Replies), what the two forms have to do with each
-- other (Forms), P1 to P12 and other examples (Examples), and the laws that carry them. Assumes nothing.
pub mod Meaning
pub mod Table
pub mod Replies
pub mod Forms
pub mod Examples
pub mod Tests
pub mod Places
pub mod Supply
pub mod Demand
pub mod Divides
pub mod Aligned
pub mod Exact
pub mod TaskRows

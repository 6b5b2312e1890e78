-- What the contracts of `records` cite: numbers and their bytes (Bytes), what a record says (Record), the answer's number and values
-- (Answer), and the bytes of an event (Encode); and what a record says as plain facts (Rows). Assumes nothing.
pub mod Bytes
pub mod Record
pub mod Answer
pub mod Encode
pub mod Rows

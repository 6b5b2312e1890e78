-- The rules of documents 01 and 02 for turns, one file a concern, in the order of the document: the numbers of the card (Limits), words
-- on lists (Lists), a VCPU (Vcpu), who is remembered (Remember), the card (Card), the five steps of an accepted call (Charge, Return,
-- Change, Choose, Timer), what step 2 reports (Told), the ticks of removed tenants and of nobody (Ledger), the refusals (Refuse), the calls
-- and their replies (Turn); then what these mean in plain facts (Meaning, Rows, Marks, Budgets, Brought, Leaving), what demand 3 speaks of
-- (History, Stays, Slices, Boundaries, Together, Demand3), and the totals held against it (Accounts). Moments, amounts and identifiers are
-- plain numbers here. Assumes nothing.
pub mod Limits
pub mod Lists
pub mod Vcpu
pub mod Remember
pub mod Card
pub mod Charge
pub mod Return
pub mod Change
pub mod Choose
pub mod Timer
pub mod Told
pub mod Ledger
pub mod Refuse
pub mod Turn
pub mod Meaning
pub mod Rows
pub mod Marks
pub mod Budgets
pub mod Brought
pub mod Leaving
pub mod History
pub mod Stays
pub mod Slices
pub mod Boundaries
pub mod Together
pub mod Demand3
pub mod Accounts

-- The promises of the public calls need Laid, Written (how a core shows a card and a card is written as a core), Calls (the rules'
-- call that a call is, the rules' answer as the answer) and State (the cores that calls make). Promised says what follows for a host.
-- Steps, Places, Remembered, Tenants and Judge are cited by private functions alone. Assumes nothing.
pub mod Laid
pub mod Written
pub mod Calls
pub mod State
pub mod Promised
pub mod Steps
pub mod Places
pub mod Remembered
pub mod Tenants
pub mod Judge

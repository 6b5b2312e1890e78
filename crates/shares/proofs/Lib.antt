-- The laws that the proofs of this crate cite, and that each promise of a public function allows one reply (OneReply). Assumes nothing.
pub mod Numbers
pub mod Bounds
pub mod SupplyCurve
pub mod DemandCurve
pub mod RowLaws
pub mod Harmonic
pub mod TableLaws
pub mod LeapLaws
pub mod Walk
pub mod Budgets
pub mod BestShare
pub mod OneReply

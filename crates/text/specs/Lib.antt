-- What the contracts of `text` cite: the pieces that both programs' lines are made of. Assumes nothing.
pub mod Text

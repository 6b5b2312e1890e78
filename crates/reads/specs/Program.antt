-- A program that reads, whatever it makes of the bytes: R is what it carries from read to read. Assumes nothing.
use Rattle.std.specs.Prelude.{◌≡◌, List, [], ◌∷◌, ◌⊎◌, ℕ, Option, Some, None}
use Rattle.reads.specs.declared.machine.End.{End}
use Rattle.reads.specs.declared.machine.End.TheVariants.{WriteFailed}
use Rattle.reads.specs.Reads.{Read, came}

pub record Program (R : Type 0) : Type 0 where
  pub standing_of : R → Option End
  pub start : R
  -- what a read with this answer makes of it: of all bytes that came, its own included, and of the round before
  pub after : Option ℕ → List ℕ → R → R

-- how a program stands after its reads, of which the latest stands first
abbrev pub after_reads : {R : Type 0} → Program R → List Read → R
after_reads p [] = p.start
after_reads p (x ∷ before) = p.after x.got (came (x ∷ before)) (after_reads p before)

-- every read was made where the ones before it let the program go on
abbrev pub EachGoesOn : {R : Type 0} → Program R → List Read → Type 0
EachGoesOn p [] = Unit
EachGoesOn p (x ∷ before) = (p.standing_of (after_reads p before) ≡ None) × EachGoesOn p before

-- a run of the program, and what it ends with
pub record Ran {R : Type 0} (p : Program R) (r : R) : Type 0 where
  pub reads : List Read
  pub each_goes_on : EachGoesOn p reads
  pub ends : p.standing_of r ≡ None → ⊥
  pub served : (p.standing_of r ≡ Some WriteFailed) ⊎ (r ≡ after_reads p reads)

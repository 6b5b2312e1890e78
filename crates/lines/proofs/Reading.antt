-- What serving relies on of reading: a record has a byte at least and lies within the bytes read, and more bytes
-- change the answer only of what waits for them. Assumes nothing.
use Prim.Native.Nat.{ℕ, ◌≤◌}
use mathlib.Core.Path.{◌≡◌, refl, ap, sym, ◌∙◌}
use mathlib.Core.Bool.{Bool, true, false}
use mathlib.Core.List.{List, ◌++◌}
use Rattle.std.specs.Prelude.{Ok, Err}
use native.Mathlib.Omega.{arith}
use lib.Dec.{eqb}
use lib.ListN.{length}
use Rattle.records.specs.declared.answers.BadRecord.{BadRecord}
use Rattle.records.specs.declared.answers.BadRecord.TheVariants.{CutShort}
use Rattle.records.specs.declared.answers.Event.{Event}
use Rattle.records.specs.Record.{told, waits}
use Rattle.records.specs.Answer.{bad_number, read_spec}
use Rattle.records.specs.Encode.{size_of}
use Rattle.records.proofs.Behind.{read_behind, read-waits}
use Rattle.records.proofs.Exactly.{read-size}

pub some_bytes : (e : Event) → 1 ≤ size_of e
unfolding size_of
some_bytes e = omega arith

-- an event is not changed by the bytes behind its record
pub event-behind : (offset : ℕ) (s t : List ℕ) (e : Event) → read_spec offset s ≡ Ok e → read_spec offset (s ++ t) ≡ Ok e
event-behind offset s t e h = go (waits s) refl
  where
    go : (b : Bool) → waits s ≡ b → read_spec offset (s ++ t) ≡ Ok e
    go true w = let r = read-waits offset s w in let z : ◌≡◌ {A = ℕ} 0 1 = cc in absurd (omega arith)
    go false w = read_behind offset s t w ∙ h

-- nor is a refusal other than 20 by the bytes behind its header
pub refusal-behind : (offset : ℕ) (s t : List ℕ) (r : BadRecord) → read_spec offset s ≡ Err r → eqb (bad_number r) 20 ≡ false
    → read_spec offset (s ++ t) ≡ Err r
refusal-behind offset s t r h n = go (waits s) refl
  where
    go : (b : Bool) → waits s ≡ b → read_spec offset (s ++ t) ≡ Err r
    go true w =
        let k = read-waits offset s w in
        let e : r ≡ CutShort (told offset) = cc in
        let z : eqb 20 20 ≡ false = ap (λ (q : BadRecord). eqb (bad_number q) 20) (sym e) ∙ n in
        let x : ◌≡◌ {A = Bool} true false = z in
        let y : ◌≡◌ {A = ℕ} 0 1 = cc in
        absurd (omega arith)
    go false w = read_behind offset s t w ∙ h

pub within : (offset : ℕ) (s : List ℕ) (e : Event) → read_spec offset s ≡ Ok e → size_of e ≤ length s
within offset s e h = (read-size offset s e h).1

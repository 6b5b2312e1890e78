-- `records::writer::write` meets its contract: nothing where the identifier is too wide or the room too small, else the record at the
-- front, by the case of the change. Assumes nothing.
use native.Mathlib.Omega.{arith}
use Prim.Native.Nat.{ℕ, ◌≤◌}
use mathlib.Core.Path.{◌≡◌, ap, sym, ◌∙◌}
use mathlib.Core.List.{List}
use lib.ListN.{length}
use borrow.Author.Tests.{not-true, not-false}
use Rattle.rules.proofs.Tests.{tests}
use Rattle.turns.specs.declared.Change.{Change}
use Rattle.records.specs.declared.answers.Event.{Event}
use Rattle.records.specs.Record.{payload_of, payload}
use Rattle.records.specs.Answer.{paper_event}
use Rattle.records.specs.Encode.{head, record_of, size_of, written_size, out_after, laid}
use Rattle.records.proofs.Written.{kept, too_wide, no_room, put_whole}
use Rattle.records.proofs.writer.write.Goals as goal
use Rattle.records.proofs.writer.write.Goals.{Else-out-whole, then-not-fits-via-then-not-fits, then-not-fits-via-else-not-fits+then-out-whole}

pub returns-then-not-fits : goal.returns-then-not-fits
returns-then-not-fits c =
    kept _ _
    (elim c.then-not-fits.branch [
      | then-not-fits-via-then-not-fits t ↦ too_wide _ _ (sym c.fits.ensures ∙ not-true _ t.if-not-fits.true-raw)
      | then-not-fits-via-else-not-fits+then-out-whole t ↦ no_room _ _ (omega (arith, tests, t.if-out-whole.true-raw, c.size-whole.ensures))
    ])

-- where both tests are passed
abbrev its-event : Else-out-whole → Event
its-event c = c.args.event

abbrev its_out : Else-out-whole → List ℕ
its_out c = c.args.out.now

whole : (c : Else-out-whole) (a : Change) (out : List ℕ) → (its-event c).change ≡ a
    → out ≡ laid (its_out c) 0 (record_of (paper_event (record { time = (its-event c).time; change = a })))
    → (c.size-whole.result ≡ written_size (its-event c) (its_out c)) × (out ≡ out_after (its-event c) (its_out c))
whole c a out same p =
    put_whole _ _ (record { time = (its-event c).time; change = a }) _ out
    (ap (λ (x : Change). record { time = (its-event c).time; change = x }) same) c.size-whole.ensures
    (sym c.fits.ensures ∙ not-false _ c.if-not-fits.false-raw)
    (omega (arith, tests, c.size-whole.ensures, c.if-out-whole.false-raw))
    p

pub returns-in-Admit : goal.returns-in-Admit
unfolding record_of payload payload_of
returns-in-Admit c =
    whole (goal.at.returns-in-Admit c).Else-out-whole _ _ c.in-Admit.is c.put_admit.ensures

pub returns-in-Wake : goal.returns-in-Wake
unfolding record_of payload payload_of
returns-in-Wake c =
    whole (goal.at.returns-in-Wake c).Else-out-whole _ _ c.in-Wake.is c.put_naming.ensures

pub returns-in-Block : goal.returns-in-Block
unfolding record_of payload payload_of
returns-in-Block c =
    whole (goal.at.returns-in-Block c).Else-out-whole _ _ c.in-Block.is c.put_naming-in-Block.ensures

pub returns-in-Remove : goal.returns-in-Remove
unfolding record_of payload payload_of
returns-in-Remove c =
    whole (goal.at.returns-in-Remove c).Else-out-whole _ _ c.in-Remove.is c.put_naming-in-Remove.ensures

pub returns-in-Tick : goal.returns-in-Tick
unfolding record_of payload payload_of head
returns-in-Tick c =
    whole (goal.at.returns-in-Tick c).Else-out-whole _ _ c.in-Tick.is c.put_head.ensures

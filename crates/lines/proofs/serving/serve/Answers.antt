-- Where a record was read, what is left is read with its offset; then each return and each turn of the loop is a law of ServedLines.
-- Assumes nothing.
use Prim.Native.Nat.{ℕ, ◌+◌, ◌-◌}
use mathlib.Core.Path.{◌≡◌, sym, ◌∙◌, ap, subst}
use mathlib.Core.List.{List}
use native.Mathlib.Omega.{arith}
use lib.Seq.{take_all}
use lib.ListN.{length, drop, length-drop}
use Rattle.std.specs.Prelude.{Ok, Err}
use Rattle.turns.specs.Calls.{turned}
use Rattle.turns.specs.declared.Answer.{Answer}
use Rattle.turns.proofs.Paper.{whole-answer}
use Rattle.records.specs.Answer.{read_spec}
use Rattle.records.proofs.Offset.{read_told}
use Rattle.records.proofs.Paper.{read_is}
use Rattle.lines.proofs.ServedLines.{Going, going_next, going_end, going-full, going-waits, going-stops}
use Rattle.lines.proofs.Reading.{some_bytes, within}
use Rattle.lines.proofs.serving.serve.Goals as goal
use Rattle.lines.proofs.serving.serve.Goals.{After-read-read, After-unwrap_err-bad, In-Ok}

abbrev left : After-read-read → List ℕ
left c = drop c.loop-used.used c.args.input.now

-- where what is left begins, from the start of input
abbrev from : After-read-read → ℕ
from c = c.args.offset + c.loop-used.used

read_all : (c : After-read-read) → c.read-read.result ≡ read_spec (from c) (left c)
read_all c =
    let some = length-drop c.loop-used.used c.args.input.now in
    read_is _ _ _ c.read-read.ensures
    ∙ ap (read_spec c.begins.result) (take_all (length c.args.input.now - c.loop-used.used) (left c) (omega (arith, some)))
    ∙ ap (λ (n : ℕ). read_spec n (left c)) c.begins.ensures
    ∙ read_told (from c) (left c)

its-event : (c : In-Ok) → let r = (goal.at.In-Ok c).After-read-read in read_spec (from r) (left r) ≡ Ok c.in-Ok.event
its-event c = sym (read_all (goal.at.In-Ok c).After-read-read) ∙ c.in-Ok.is

its-refusal : (c : After-unwrap_err-bad)
    → let r = (goal.at.After-unwrap_err-bad c).After-read-read in read_spec (from r) (left r) ≡ Err c.unwrap_err-bad.result
its-refusal c = sym (read_all (goal.at.After-unwrap_err-bad c).After-read-read) ∙ c.unwrap_err-bad.ensures

pub returns-after-loop-used : goal.returns-after-loop-used
returns-after-loop-used c =
    let h = going_end _ _ _ _ _ _ _ _ _ c.loop-used.invariant c.loop-used-test.false in
    record { handed_back = h.0.0; core_after = h.0.1; out_after = h.1.0; used_in_bounds = h.1.1 }

pub returns-else-out-written-ge-LONGEST_LINE : goal.returns-else-out-written-ge-LONGEST_LINE
returns-else-out-written-ge-LONGEST_LINE c =
    let h = going-full _ _ _ _ _ _ _ _ _ c.loop-used.invariant c.if-out-written-ge-LONGEST_LINE.false in
    record { handed_back = h.0.0; core_after = h.0.1; out_after = h.1.0; used_in_bounds = h.1.1 }

pub returns-then-waits : goal.returns-then-waits
returns-then-waits c =
    let h = going-waits _ _ _ _ _ _ _ _ _ c.loop-used.invariant c.unwrap_err-bad.result c.loop-used-test.true c.if-out-written-ge-LONGEST_LINE.true
    (its-refusal (goal.at.returns-then-waits c).After-unwrap_err-bad) (sym c.waits.ensures ∙ c.if-waits.true) in
    record { handed_back = h.0.0; core_after = h.0.1; out_after = h.1.0; used_in_bounds = h.1.1 }

pub returns-in_default : goal.returns-in_default
returns-in_default c =
    let p = c.put_refusal-written.ensures in
    let h = going-stops _ _ _ _ _ _ _ _ _ c.loop-used.invariant c.unwrap_err-bad.result c.loop-used-test.true c.if-out-written-ge-LONGEST_LINE.true
    (its-refusal (goal.at.returns-in_default c).After-unwrap_err-bad) _ _ (sym c.waits.ensures ∙ c.if-waits.false) (rw (c.number.ensures, c.detail.ensures) at p.0) p.1 in
    record { handed_back = h.0.0; core_after = h.0.1; out_after = h.1.0; used_in_bounds = h.1.1 }

pub overflow_add-used : goal.overflow_add-used
overflow_add-used c =
    let r = (goal.at.overflow_add-used c).After-read-read in
    omega (
      arith,
      c.size-used.ensures,
      within (from r) (left r) c.in-Ok.event (its-event (goal.at.overflow_add-used c).In-Ok),
      length-drop c.loop-used.used c.args.input.now,
      c.loop-used-test.true,
    )

pub loop-used-smaller : goal.loop-used-smaller
loop-used-smaller c = omega (arith, c.size-used.ensures, some_bytes c.in-Ok.event, c.loop-used-test.true)

pub loop-used-preserved : goal.loop-used-preserved
loop-used-preserved c =
    let a : Answer = record { core = c.step-reply.new.self; reply = c.step-reply.result } in
    let p = c.put_line-written.ensures in
    let t : a ≡ turned c.loop-used.core c.in-Ok.event.time c.in-Ok.event.change =
    whole-answer _ _ _ a c.step-reply.ensures.reply_is c.step-reply.ensures.core_is in
    subst (λ (k : ℕ). Going c.args.input.now c.args.offset c.args.last c.args.core.now c.args.out.now c.step-reply.new.self (c.loop-used.used + k)
    c.put_line-written.result c.put_line-written.new.out) (sym c.size-used.ensures)
    (going_next _ _ _ _ _ _ _ _ _ c.loop-used.invariant c.in-Ok.event a _ _ c.loop-used-test.true c.if-out-written-ge-LONGEST_LINE.true
    (its-event (goal.at.loop-used-preserved c).In-Ok) t p.0 p.1)

-- That `sales` keeps the laws of a machine (crate `reads`): while the input goes on all of it waits. Assumes nothing.
use Rattle.std.specs.Prelude.{◌≡◌, ℕ, ◌+◌, ◌≤◌, Bool, true, false, cond, List, [], ◌++◌, length, drop, Option, Some, None}
use mathlib.Core.Path.{refl, ap, sym, ◌∙◌}
use native.Mathlib.Omega.{arith}
use borrow.Author.Tests.{ltb-false}
use Rattle.reads.specs.declared.machine.End.{End}
use Rattle.reads.specs.declared.machine.End.TheVariants.{ByteLimit}
use Rattle.reads.specs.Machine.{further, unserved}
use Rattle.reads.proofs.Goes.{run-same}
use Rattle.queries.specs.Meaning.{is_long}
use Rattle.sales.specs.declared.Sale.{Sale}
use Rattle.sales.specs.Program.{ended, run_of}

pub runs_nil : (m : Sale) (offset : ℕ) → run_of m offset [] false ≡ unserved m
runs_nil m offset = refl

-- too many bytes end it
pub goes_on : (s : List ℕ) (m : Sale) → is_long s ≡ true → (cond (is_long s) (ended s) (unserved m)).end ≡ None → ⊥
goes_on s m n h =
    let z : ◌≡◌ {A = Option End} (Some ByteLimit) None =
    sym (ap (λ (t : Bool). (cond t (ended s) (unserved m)).end) n ∙ ap (λ (t : Bool). cond t (Some ByteLimit) None) n) ∙ h in cc

pub runs_more : (m : Sale) (offset : ℕ) (s more : List ℕ) (last : Bool) → (run_of m offset s false).end ≡ None
    → run_of m offset (s ++ more) last
    ≡ further (run_of m offset s false)
    (run_of (run_of m offset s false).machine (offset + (run_of m offset s false).used) (drop (run_of m offset s false).used s ++ more) last)
runs_more m offset s more last h = go (is_long s) refl
  where
    go : (t : Bool) → is_long s ≡ t
        → run_of m offset (s ++ more) last
        ≡ further (run_of m offset s false)
        (run_of (run_of m offset s false).machine (offset + (run_of m offset s false).used) (drop (run_of m offset s false).used s ++ more) last)
    go false n =
        let e : run_of m offset s false ≡ unserved m = ap (λ (t : Bool). cond t (ended s) (unserved m)) n in
        rw e (run-same refl (omega arith) refl refl)
    go true n = absurd (goes_on s m n h)

pub runs_few : (m : Sale) (offset : ℕ) (s : List ℕ) → (run_of m offset s false).end ≡ None
    → ((run_of m offset s false).used ≤ length s) × (length s ≤ (run_of m offset s false).used + 65535)
runs_few m offset s h = go (is_long s) refl
  where
    go : (t : Bool) → is_long s ≡ t → ((run_of m offset s false).used ≤ length s) × (length s ≤ (run_of m offset s false).used + 65535)
    go false n =
        let e : run_of m offset s false ≡ unserved m = ap (λ (t : Bool). cond t (ended s) (unserved m)) n in
        rw e (omega arith, omega (arith, ltb-false 65535 (length s) n))
    go true n = absurd (goes_on s m n h)

-- That `sizing` keeps the laws of a machine (crate `reads`): serving what waits with the new bytes goes on from what was served before. Assumes
-- nothing.
use Rattle.std.specs.Prelude.{◌≡◌, ℕ, ◌+◌, ◌≤◌, Bool, true, false, cond, ◌||◌, List, [], ◌∷◌, ◌++◌, length, drop, None}
use mathlib.Core.Path.{refl, ap}
use native.Mathlib.Omega.{arith}
use borrow.Author.Tests.{ltb-false}
use Rattle.queries.specs.Meaning.{until, behind, is_long}
use Rattle.model.proofs.Tests.{or_neither}
use Rattle.reads.specs.Machine.{Run, further, unserved}
use Rattle.sizing.specs.declared.Sizer.{Sizer}
use Rattle.sizing.specs.Program.{Run as Part, served, serve_of, run_of}
use Rattle.sizing.specs.Cutting.{sizes, all-sizes}
use Rattle.sizing.specs.Serving.{any-cut}

-- how many bytes of the last line wait
abbrev pub waiting : Bool → List ℕ → List (List ℕ) → ℕ
waiting long l [] = cond (long || is_long l) 0 (length l)
waiting long l (m ∷ ms) = waiting false m ms

pub used-or-waits : (long : Bool) (l : List ℕ) (ms : List (List ℕ)) → (served long l ms).used + waiting long l ms ≡ sizes l ms
used-or-waits long l [] = go (long || is_long l)
  where
    go : (t : Bool) → cond t (length l) 0 + cond t 0 (length l) ≡ length l
    go true = omega arith
    go false = omega arith
used-or-waits long l (m ∷ ms) = omega (arith, used-or-waits false m ms)

few_wait : (long : Bool) (l : List ℕ) (ms : List (List ℕ)) → waiting long l ms ≤ 65535
few_wait long l [] = go (long || is_long l) refl
  where
    go : (t : Bool) → (long || is_long l) ≡ t → cond t 0 (length l) ≤ 65535
    go true e = omega arith
    go false e = omega (arith, ltb-false 65535 (length l) (or_neither long (is_long l) e).1)
few_wait long l (m ∷ ms) = few_wait false m ms

pub used-few : (long : Bool) (s : List ℕ) → ((serve_of long s).used ≤ length s) × (length s ≤ (serve_of long s).used + 65535)
used-few long s =
    let w = used-or-waits long (until 10 s) (behind 10 s) in
    let f = few_wait long (until 10 s) (behind 10 s) in
    let a = all-sizes 10 s in
    (omega (arith, w, a), omega (arith, w, f, a))

-- the same of a part, as the machine tells it
abbrev told : Part → Run Sizer
told r = record { machine = record { long = r.long }; used = r.used; text = r.text; end = None }

pub runs_nil : (m : Sizer) (offset : ℕ) → run_of m offset [] false ≡ unserved m
runs_nil m offset = go m.long
  where
    go : (t : Bool) → run_of (record { long = t }) offset [] false ≡ unserved (record { long = t })
    go true = refl
    go false = refl

pub runs_more : (m : Sizer) (offset : ℕ) (s more : List ℕ) (last : Bool) → (run_of m offset s false).end ≡ None
    → run_of m offset (s ++ more) last
    ≡ further (run_of m offset s false)
    (run_of (run_of m offset s false).machine (offset + (run_of m offset s false).used) (drop (run_of m offset s false).used s ++ more) last)
runs_more m offset s more last h = ap told (any-cut m.long s more)

pub runs_few : (m : Sizer) (offset : ℕ) (s : List ℕ) → (run_of m offset s false).end ≡ None
    → ((run_of m offset s false).used ≤ length s) × (length s ≤ (run_of m offset s false).used + 65535)
runs_few m offset s h = used-few m.long s

-- The ticks that a stay held, as the history grows and the stay ends; and that each tick has one owner, a stay or idle.
-- Assumes nothing.
use mathlib.Core.Path.{◌≡◌, refl, ap}
use mathlib.Core.Bool.{Bool, true, false, cond, ◌&&◌}
use mathlib.Core.List.{List, [], ◌∷◌}
use mathlib.Core.Option.{Option, none, some}
use Prim.Native.Nat.{ℕ, zero, suc, ◌+◌, ◌≤◌, ◌<◌}
use native.Mathlib.Omega.{arith}
use lib.Dec.{leb, eqb}
use lib.ListN.{length}
use borrow.Author.Tests.{le-leb, lt-leb, lt-ltb, le-ltb}
use Rattle.rules.specs.Lists.{count, sum}
use Rattle.rules.specs.History.{ticks, holds, idle_ticks}
use Rattle.rules.specs.Stays.{Stay, lasts, with_end, before_end, owns, held, held_ticks, EachTick, owners}
use Rattle.rules.proofs.Tests.{and_right}
use Rattle.rules.proofs.Lists.{length-ticks}

-- begun by `last`, and ended by then if at all
pub record Dated (last : ℕ) (s : Stay) : Type 0 where
  pub began : s.from ≤ last
  pub over : (r : ℕ) → s.until ≡ some r → r ≤ last

pub length-held : (s : Stay) (h : List (Option ℕ)) → length (held s h) ≡ length h
length-held s [] = refl
length-held s (o ∷ h) = ap suc (length-held s h)

-- a tick from `last` on is the stay's exactly where it lasts and has the holder's identifier
pub owns-now : (s : Stay) (o : Option ℕ) (last n : ℕ) → Dated last s → last ≤ n
    → owns s o n ≡ lasts s.until && holds s.terms.tunnel o
owns-now s o last n d h = go s.until refl (holds s.terms.tunnel o)
  where
    go : (u : Option ℕ) → s.until ≡ u → (b : Bool) → b && leb s.from n && before_end u n ≡ lasts u && b
    go none e true = rw (le-leb s.from n (omega (arith, d.began)))
    go none e false = refl
    go (some r) e true = rw (le-ltb n r (omega (arith, d.over r e))) (and_right (leb s.from n))
    go (some r) e false = refl

pub held_more : (s : Stay) (o : Option ℕ) (last d : ℕ) (h : List (Option ℕ)) → Dated last s → last ≤ length h
    → held s (ticks d o h) ≡ ticks d (lasts s.until && holds s.terms.tunnel o) (held s h)
held_more s o last zero h g k = refl
held_more s o last (suc d) h g k =
    let e : last ≤ length (ticks d o h) = omega (arith, length-ticks d o h) in
    rw (owns-now s o last (length (ticks d o h)) g e)
    (ap (λ (l : List Bool). (lasts s.until && holds s.terms.tunnel o) ∷ l) (held_more s o last d h g k))

-- so it held d ticks more, or none
pub held_on : (d : ℕ) (m : List Bool) → held_ticks (ticks d true m) ≡ held_ticks m + d
held_on zero m = omega arith
held_on (suc d) m = omega (arith, held_on d m)

pub held_off : (d : ℕ) (m : List Bool) → held_ticks (ticks d false m) ≡ held_ticks m
held_off zero m = refl
held_off (suc d) m = omega (arith, held_off d m)

-- no tick before its admission
pub owns_none : (s : Stay) (o : Option ℕ) (n : ℕ) → n < s.from → owns s o n ≡ false
owns_none s o n h = rw (lt-leb s.from n h) (go (holds s.terms.tunnel o))
  where
    go : (b : Bool) → b && false && before_end s.until n ≡ false
    go true = refl
    go false = refl

-- nor from its end on
pub owns-over : (s : Stay) (o : Option ℕ) (end n : ℕ) → s.until ≡ some end → end ≤ n → owns s o n ≡ false
owns-over s o end n e h = rw (e, le-ltb n end h) (and_right (holds s.terms.tunnel o && leb s.from n))

pub held_new : (s : Stay) (h : List (Option ℕ)) → length h ≤ s.from → held s h ≡ ticks (length h) false []
held_new s [] k = refl
held_new s (o ∷ h) k =
    rw (owns_none s o (length h) k)
    (ap (λ (l : List Bool). false ∷ l) (held_new s h (omega arith)))

-- an end to come takes no tick of the past
pub owns-end : (now tunnel : ℕ) (s : Stay) (o : Option ℕ) (n : ℕ) → n < now → owns (with_end now tunnel s) o n ≡ owns s o n
owns-end now tunnel s o n h = go s.until refl
  where
    go : (u : Option ℕ) → s.until ≡ u
        → holds s.terms.tunnel o && leb s.from n && before_end (cond (lasts u && eqb s.terms.tunnel tunnel) (some now) u) n
        ≡ holds s.terms.tunnel o && leb s.from n && before_end u n
    go none e = ap (λ (b : Bool). holds s.terms.tunnel o && leb s.from n && b) (pick (eqb s.terms.tunnel tunnel))
      where
        pick : (b : Bool) → before_end (cond b (some now) none) n ≡ true
        pick true = lt-ltb n now h
        pick false = refl
    go (some r) e = refl

pub held-end : (now tunnel : ℕ) (s : Stay) (h : List (Option ℕ)) → length h ≤ now → held (with_end now tunnel s) h ≡ held s h
held-end now tunnel s [] k = refl
held-end now tunnel s (o ∷ h) k =
    rw (owns-end now tunnel s o (length h) k, held-end now tunnel s h (omega arith))

pub each_imp : (P Q : Option ℕ → ℕ → Type 0) (h : List (Option ℕ)) → ((o : Option ℕ) (n : ℕ) → n < length h → P o n → Q o n)
    → EachTick P h → EachTick Q h
each_imp P Q [] f e = tt
each_imp P Q (o ∷ h) f e = (f o (length h) (omega arith) e.0, each_imp P Q h (λ o n k. f o n (omega arith)) e.1)

pub each_more : (P : Option ℕ → ℕ → Type 0) (d : ℕ) (o : Option ℕ) (h : List (Option ℕ)) → ((n : ℕ) → length h ≤ n → P o n) → EachTick P h
    → EachTick P (ticks d o h)
each_more P zero o h f e = e
each_more P (suc d) o h f e = (f (length (ticks d o h)) (omega (arith, length-ticks d o h)), each_more P d o h f e)

owners-add : (ss : List Stay) (o : Option ℕ) (h : List (Option ℕ))
    → sum (λ s. held_ticks (held s (o ∷ h))) ss ≡ count (λ s. owns s o (length h)) ss + sum (λ s. held_ticks (held s h)) ss
owners-add [] o h = refl
owners-add (s ∷ ss) o h = omega (arith, owners-add ss o h)

held_none : (ss : List Stay) → sum (λ s. held_ticks (held s [])) ss ≡ 0
held_none [] = refl
held_none (s ∷ ss) = omega (arith, held_none ss)

-- where each tick has one owner, the held ticks of all stays and the idle ones are all there are
pub each_tick_held : (ss : List Stay) (h : List (Option ℕ)) → EachTick (λ o n. owners ss o n ≡ 1) h
    → sum (λ s. held_ticks (held s h)) ss + idle_ticks h ≡ length h
each_tick_held ss [] e = omega (arith, held_none ss)
each_tick_held ss (o ∷ h) e = omega (arith, owners-add ss o h, each_tick_held ss h e.1, e.0)

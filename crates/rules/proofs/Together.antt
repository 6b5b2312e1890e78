-- Stays of one identifier, none of which began before the time that an earlier one left behind: what they held together in any window of
-- T. A window that meets the beginning of one has only the last ticks of those before it. One law for the three kinds, over stays and
-- history alone. Assumes of each stay its own bound.
use mathlib.Core.Path.{◌≡◌, refl, ap, sym, ◌∙◌, subst}
use mathlib.Core.Bool.{Bool, true, false, cond}
use mathlib.Core.List.{List, [], ◌∷◌}
use mathlib.Core.Logic.{◌⊎◌, ◌↔◌, inl, inr, ⊎_elim}
use mathlib.Core.Option.{Option, none, some}
use Prim.Native.Nat.{ℕ, suc, ◌+◌, ◌-◌, ◌*◌, ◌/◌, ◌≤◌, ◌<◌}
use native.Mathlib.Omega.{arith}
use lib.Dec.{leb, ltb, eqb}
use lib.ListN.{length}
use borrow.Author.Tests.{leb-true, leb-false, eqb-true, eq-eqb}
use Rattle.rules.specs.Lists.{sum, All, Among}
use Rattle.rules.specs.Meaning.{Sporadic}
use Rattle.rules.specs.History.{Exchange, past}
use Rattle.rules.specs.Stays.{Stay, stays, held, held_ticks, window}
use Rattle.rules.specs.Slices.{slices}
use Rattle.rules.specs.Boundaries.{held_between, boundary, latest}
use Rattle.rules.specs.Together.{returns_by, owes_until, is_alike, alike}
use Rattle.rules.specs.Demand3.{Refills, AtMostCapacity, AtMostOnce, TogetherAtMostCapacity, TogetherAtMostTwice, NoSooner}
use Rattle.rules.proofs.Tests.{tests, cases, and-true}
use Rattle.rules.proofs.Lists.{among_all, all_among, among_keep, keep_among}
use Rattle.rules.proofs.Held.{length-held}
use Rattle.rules.proofs.Window.{Within}
use Rattle.rules.proofs.ThreeKinds.{is-sporadic, not-sporadic}
use Rattle.rules.proofs.LatestSlice.{LatestSlice, latest-slice, nothing-held}
use Rattle.rules.proofs.Boundaries.{Anywhere, within-anywhere, window-between, between_split, between_both, between_wide}
use Rattle.rules.proofs.Boundaries.{between-most, between_admission, between-over, Once, twice, boundary-next, latest-by}

-- the ticks that these stays held between two moments, added up
abbrev held_by : List Stay → ℕ → ℕ → List (Option ℕ) → ℕ
held_by ss low high h = sum (λ s. held_between low high (held s h)) ss

by-split : (low middle high : ℕ) (ss : List Stay) (h : List (Option ℕ))
    → held_by ss low high h ≤ held_by ss low middle h + held_by ss middle high h
by-split low middle high [] h = omega arith
by-split low middle high (s ∷ ss) h = omega (arith, between_split low middle high (held s h), by-split low middle high ss h)

by-none : (low high : ℕ) (ss : List Stay) (h : List (Option ℕ)) → high ≤ low → held_by ss low high h ≡ 0
by-none low high [] h k = refl
by-none low high (s ∷ ss) h k = omega (arith, between-most low high (held s h), by-none low high ss h k)

-- a window lies between the moments that it covers
by-window : (T k : ℕ) (ss : List Stay) (h : List (Option ℕ))
    → sum (λ s. held_ticks (window T k (held s h))) ss ≤ held_by ss (length h - k - T) (length h - k - T + T) h
by-window T k [] h = omega arith
by-window T k (s ∷ ss) h =
    omega (
      arith,
      window-between T k (length h - k - T) (length h - k - T + T) (held s h)
          (λ n a b. (omega (arith, length-held s h), omega (arith, length-held s h))),
      by-window T k ss h,
    )

-- the time that a stay left behind, by its kind
pub owes-sporadic : (h : List (Option ℕ)) (s : Stay) (end : ℕ) → Sporadic s.terms
    → owes_until h s end ≡ returns_by s.terms.period (slices s.terms.period (held s h))
owes-sporadic h s end kind = rw (is-sporadic s.terms kind)

pub owes-refills : (h : List (Option ℕ)) (s : Stay) (end : ℕ) → Refills s → owes_until h s end ≡ some (latest s end + s.terms.period)
owes-refills h s end kind = rw (not-sporadic s.terms kind) (ap some (omega arith))

-- it has ended by the moment, and the time that it left behind has come
abbrev pub Gone : List (Option ℕ) → ℕ → Stay → Type 0
Gone h now s = (end : ℕ) × (s.until ≡ some end) × (end ≤ now) × ((t : ℕ) → owes_until h s end ≡ some t → t ≤ now)

-- each began when those before it were gone; the latest comes first
abbrev pub OneByOne : List (Option ℕ) → List Stay → Type 0
OneByOne h [] = Unit {0}
OneByOne h (s ∷ earlier) = All (Gone h s.from) earlier × OneByOne h earlier

-- who is gone holds nothing more
gone-holds : (h : List (Option ℕ)) (now low high : ℕ) (ss : List Stay) → All (Gone h now) ss → now ≤ low → held_by ss low high h ≡ 0
gone-holds h now low high [] g k = refl
gone-holds h now low high (s ∷ ss) g k =
    let e = g.0 in
    omega (
      arith,
      between-over s e.0 low high h e.1 (omega (arith, e.2)),
      gone-holds h now low high ss g.1 k,
    )

-- `most` is the bound of any window of T. Of a window that begins at `low` and meets `now`, those gone by then held at most `room`
module _ (T most : ℕ) (room : ℕ → ℕ → ℕ) (h : List (Option ℕ)) where
  pub record Fair (s : Stay) : Type 0 where
    pub alone : Anywhere T most (held s h)
    -- what it holds first fits beside the last of those before it
    pub first : (low : ℕ) → low ≤ s.from → s.from ≤ low + T → room low s.from + held_between s.from (low + T) (held s h) ≤ most
    -- what it holds last, and then nothing of those before it is left
    pub rest : (now : ℕ) → Gone h now s → (low : ℕ) → low ≤ now → now ≤ low + T
        → (held_between low now (held s h) ≡ 0) ⊎ ((s.from ≤ low) × (held_between low now (held s h) ≤ room low now))

  record Shared (ss : List Stay) : Type 0 where
    all : (low : ℕ) → held_by ss low (low + T) h ≤ most
    rest : (now : ℕ) → All (Gone h now) ss → (low : ℕ) → low ≤ now → now ≤ low + T → held_by ss low now h ≤ room low now

  one_more : (s : Stay) (ss : List Stay) → Fair s → All (Gone h s.from) ss → Shared ss → Shared (s ∷ ss)
  one_more s ss f g o = record { all = all; rest = rest }
    where
      none_before : (low high : ℕ) → low ≤ high → high ≤ s.from → held_between low high (held s h) ≡ 0
      none_before low high l k =
          omega (arith, between_wide low high 0 s.from (held s h) (omega arith) l k, between_admission s h)

      all : (low : ℕ) → held_by (s ∷ ss) low (low + T) h ≤ most
      all low = ⊎_elim behind (λ e. ⊎_elim (across e) before (cases (ltb s.from (low + T)))) (cases (leb s.from low))
        where
          behind : leb s.from low ≡ true → held_by (s ∷ ss) low (low + T) h ≤ most
          behind e = omega (arith, f.alone low, gone-holds h s.from low (low + T) ss g (omega (arith, tests)))

          before : ltb s.from (low + T) ≡ false → held_by (s ∷ ss) low (low + T) h ≤ most
          before e = omega (arith, o.all low, none_before low (low + T) (omega arith) (omega (arith, tests)))

          across : leb s.from low ≡ false → ltb s.from (low + T) ≡ true
              → held_by (s ∷ ss) low (low + T) h ≤ most
          across e k =
              omega (
                arith,
                between_split low s.from (low + T) (held s h),
                none_before low s.from (omega (arith, tests)) (omega arith),
                by-split low s.from (low + T) ss h,
                o.rest s.from g low (omega (arith, tests)) (omega (arith, tests)),
                gone-holds h s.from s.from (low + T) ss g (omega arith),
                f.first low (omega (arith, tests)) (omega (arith, tests)),
              )

      rest : (now : ℕ) → All (Gone h now) (s ∷ ss) → (low : ℕ) → low ≤ now → now ≤ low + T
          → held_by (s ∷ ss) low now h ≤ room low now
      rest now a low l k = ⊎_elim nothing only (f.rest now a.0 low l k)
        where
          nothing : held_between low now (held s h) ≡ 0 → held_by (s ∷ ss) low now h ≤ room low now
          nothing z = omega (arith, o.rest now a.1 low l k)

          only : (s.from ≤ low) × (held_between low now (held s h) ≤ room low now)
              → held_by (s ∷ ss) low now h ≤ room low now
          only p =
              omega (
                arith,
                p.1,
                gone-holds h s.from low now ss g (omega (arith, p.0)),
              )

  shared : (ss : List Stay) → All Fair ss → OneByOne h ss → Shared ss
  shared [] f o =
      record {
        all = λ low. omega arith;
        rest = λ now g low l k. omega arith;
      }
  shared (s ∷ ss) f o = one_more s ss f.0 o.0 (shared ss f.1 o.1)

  pub anywhere-together : (ss : List Stay) → All Fair ss → OneByOne h ss → (low : ℕ) → held_by ss low (low + T) h ≤ most
  anywhere-together ss f o = (shared ss f o).all

module _ (h : List (Option ℕ)) (s : Stay) (pos : 1 ≤ s.terms.period) where
  abbrev T : ℕ
  T = s.terms.period

  abbrev C : ℕ
  C = s.terms.capacity

  abbrev m : List Bool
  m = held s h

  -- a sporadic stay: what it holds last is of its latest slice, which holds the ticks before as well
  pub fair-sporadic : s.terms.kind ≡ 0 → Within T C m → Fair T C (λ low now. C - (low + T - now)) h s
  fair-sporadic kind w = record { alone = any; first = λ low l k. first low l k; rest = rest }
    where
      any : Anywhere T C m
      any = within-anywhere T C m w

      first : (low : ℕ) → low ≤ s.from → s.from ≤ low + T → C - (low + T - s.from) + held_between s.from (low + T) m ≤ C
      first low l k =
          omega (
            arith,
            between-most s.from (low + T) m,
            between_wide s.from (low + T) low (low + T) m l k (omega arith),
            any low,
          )

      Rest : ℕ → ℕ → Type 0
      Rest now low = (held_between low now m ≡ 0) ⊎ ((s.from ≤ low) × (held_between low now m ≤ C - (low + T - now)))

      rest : (now : ℕ) → Gone h now s → (low : ℕ) → low ≤ now → now ≤ low + T → Rest now low
      rest now g low l k = go (returns_by T (slices T m)) refl
        where
          come : (t : ℕ) → returns_by T (slices T m) ≡ some t → t ≤ now
          come t e = g.3 t (owes-sporadic h s g.0 kind ∙ e)

          of-latest : (t : ℕ) → t ≤ now → (p : LatestSlice T t m) → low < p.end → Rest now low
          of-latest t c p e =
              let a : p.start ≤ low = omega (arith, p.due) in
              inr (
                omega (arith, begun-after),
                omega (
                  arith,
                  p.due,
                  p.held_throughout low a (omega arith),
                  between_both p.start low (p.start + T) m a (omega (arith, p.short)),
                  any p.start,
                  between_split low (p.start + T) now m,
                  p.none-behind (p.start + T) now p.short,
                ),
              )
            where
              begun-after : s.from ≤ p.start
              begun-after =
                  ⊎_elim (λ b. leb-true s.from p.start b)
                  (λ b. absurd (omega (
                    arith,
                    p.held_throughout (suc p.start) (omega arith) p.some-ticks,
                    between_wide p.start (suc p.start) 0 s.from m (omega arith) (omega arith) (leb-false s.from p.start b),
                    between_admission s h,
                  ))) (cases (leb s.from p.start))

          go : (o : Option ℕ) → returns_by T (slices T m) ≡ o → Rest now low
          go none e = inl (nothing-held T low now m pos e)
          go (some t) e =
              let p = latest-slice T t m pos e in
              ⊎_elim (λ b. inl (p.none-behind low now (omega (arith, tests)))) (λ b. of-latest t (come t e) p (omega (arith, tests)))
              (cases (leb p.end low))

  -- a deferrable or polling one: what it holds last is of one stretch between boundaries
  pub fair-refills : (s.terms.kind ≡ 0 → ⊥) → Once m s → Fair T (2 * C) (λ low now. C) h s
  fair-refills kind once =
      record {
        alone = within-anywhere T (2 * C) m (twice s m (between_admission s h) once);
        first = first;
        rest = λ now g low l k. inr (rest now g low l k);
      }
    where
      first : (low : ℕ) → low ≤ s.from → s.from ≤ low + T → C + held_between s.from (low + T) m ≤ 2 * C
      first low l k =
          omega (
            arith,
            between_wide s.from (low + T) (boundary s 0) (boundary s (0 + 1)) m (omega arith) k (omega (arith, boundary-next s 0)),
            once 0,
          )

      rest : (now : ℕ) → Gone h now s → (low : ℕ) → low ≤ now → now ≤ low + T → (s.from ≤ low) × (held_between low now m ≤ C)
      rest now g low l k =
          let b : latest s g.0 + T ≤ now = g.3 (latest s g.0 + T) (owes-refills h s g.0 kind) in
          let q : ℕ = (g.0 - s.from) / T in (
            omega arith,
            omega (
              arith,
              between_wide low now (boundary s q) now m (omega arith) l (omega arith),
              between_split (boundary s q) (boundary s (q + 1)) now m,
              once q,
              between-over s g.0 (boundary s (q + 1)) now h g.1 (omega (arith, boundary-next s q, ended g.0)),
            ),
          )
        where
          -- the boundary after its end
          ended : (end : ℕ) → end ≤ latest s end + T
          ended end =
              ⊎_elim (λ e. omega (arith, latest-by s pos end (leb-true s.from end e)))
              (λ e. omega (arith, leb-false s.from end e)) (cases (leb s.from end))

-- of all stays that the history tells those like this one
module _ (xs : List Exchange) (s : Stay) where
  -- nothing is asked of their priorities
  pub record Alike (r : Stay) : Type 0 where
    pub tunnel : r.terms.tunnel ≡ s.terms.tunnel
    pub period : r.terms.period ≡ s.terms.period
    pub capacity : r.terms.capacity ≡ s.terms.capacity
    pub kind : r.terms.kind ≡ s.terms.kind

  alike-says : (r : Stay) → is_alike s r ≡ true → Alike r
  alike-says r e =
      let c = and-true _ (eqb r.terms.kind s.terms.kind) e in
      let b = and-true _ (eqb r.terms.capacity s.terms.capacity) c.0 in
      let a = and-true (eqb r.terms.tunnel s.terms.tunnel) (eqb r.terms.period s.terms.period) b.0 in
      record {
        tunnel = eqb-true r.terms.tunnel s.terms.tunnel a.0;
        period = eqb-true r.terms.period s.terms.period a.1;
        capacity = eqb-true r.terms.capacity s.terms.capacity b.1;
        kind = eqb-true r.terms.kind s.terms.kind c.1;
      }

  -- .. and it is enough
  is-alike : (r : Stay) → Alike r → is_alike s r ≡ true
  is-alike r a =
      rw (
        eq-eqb r.terms.tunnel s.terms.tunnel a.tunnel,
        eq-eqb r.terms.period s.terms.period a.period,
        eq-eqb r.terms.capacity s.terms.capacity a.capacity,
        eq-eqb r.terms.kind s.terms.kind a.kind,
      )

  pub alike-exactly : (r : Stay) (ss : List Stay) → Among r (alike s ss) ↔ (Among r ss × Alike r)
  alike-exactly r ss = (
    λ m. let k = among_keep (is_alike s) ss r m in (k.0, alike-says r k.1),
    λ k. keep_among (is_alike s) ss r k.0 (is-alike r k.1),
  )

  each-alike : {P Q : Stay → Type 0} (ss : List Stay) → All P ss → ((r : Stay) → Alike r → P r → Q r) → All Q (alike s ss)
  each-alike {P = P} {Q = Q} ss a f =
      among_all Q (alike s ss) (λ r m. let k = (alike-exactly r ss).0 m in f r k.1 (all_among P ss a r k.0))

  one_by_one : (ss : List Stay) → NoSooner (past xs) ss → OneByOne (past xs) (alike s ss)
  one_by_one [] n = tt
  one_by_one (r ∷ ss) n = go (is_alike s r) refl (one_by_one ss n.1)
    where
      go : (t : Bool) → is_alike s r ≡ t → OneByOne (past xs) (alike s ss) → OneByOne (past xs) (cond t (r ∷ alike s ss) (alike s ss))
      go false e o = o
      go true e o = (each-alike ss n.0 (λ q a g. g (a.tunnel ∙ sym (alike-says r e).tunnel)), o)

  abbrev Together : ℕ → Type 0
  Together most = (before : ℕ) → sum (λ r. held_ticks (window s.terms.period before (held r (past xs)))) (alike s (stays xs)) ≤ most

  together-by : (most : ℕ) (room : ℕ → ℕ → ℕ) → NoSooner (past xs) (stays xs)
      → (1 ≤ s.terms.period → All (Fair s.terms.period most room (past xs)) (alike s (stays xs))) → Together most
  together-by most room n f before =
      let low : ℕ = length (past xs) - before - s.terms.period in
      omega (
        arith,
        by-window s.terms.period before (alike s (stays xs)) (past xs),
        ⊎_elim (λ e. anywhere-together s.terms.period most room (past xs) (alike s (stays xs)) (f (omega (arith, tests)))
            (one_by_one (stays xs) n) low)
            (λ e. omega (arith, by-none low (low + s.terms.period) (alike s (stays xs)) (past xs) (omega (arith, tests))))
            (cases (ltb 0 s.terms.period)),
      )

  pub together-sporadic : NoSooner (past xs) (stays xs) → All (λ r. Sporadic r.terms → AtMostCapacity xs r) (stays xs)
      → Sporadic s.terms → TogetherAtMostCapacity xs s
  together-sporadic n b kind =
      together-by s.terms.capacity _ n (λ pos. each-alike (stays xs) b (λ r a w. fair r a pos (w (a.kind ∙ kind))))
    where
      fair : (r : Stay) → Alike r → 1 ≤ s.terms.period → AtMostCapacity xs r
          → Fair s.terms.period s.terms.capacity (λ low now. s.terms.capacity - (low + s.terms.period - now)) (past xs) r
      fair r a pos w =
          subst (λ (T : ℕ). Fair T s.terms.capacity (λ low now. s.terms.capacity - (low + T - now)) (past xs) r) a.period
          (subst (λ (C : ℕ). Fair r.terms.period C (λ low now. C - (low + r.terms.period - now)) (past xs) r) a.capacity
          (fair-sporadic (past xs) r (omega (arith, a.period)) (a.kind ∙ kind) w))

  pub together-refills : NoSooner (past xs) (stays xs) → All (λ r. Refills r → AtMostOnce xs r) (stays xs)
      → Refills s → TogetherAtMostTwice xs s
  together-refills n b kind =
      together-by (2 * s.terms.capacity) _ n (λ pos. each-alike (stays xs) b (λ r a w. fair r a pos (λ e. kind (sym a.kind ∙ e)) w))
    where
      fair : (r : Stay) → Alike r → 1 ≤ s.terms.period → Refills r → (Refills r → AtMostOnce xs r)
          → Fair s.terms.period (2 * s.terms.capacity) (λ low now. s.terms.capacity) (past xs) r
      fair r a pos k w =
          subst (λ (T : ℕ). Fair T (2 * s.terms.capacity) (λ low now. s.terms.capacity) (past xs) r) a.period
          (subst (λ (C : ℕ). Fair r.terms.period (2 * C) (λ low now. C) (past xs) r) a.capacity
          (fair-refills (past xs) r (omega (arith, a.period)) k (w k)))

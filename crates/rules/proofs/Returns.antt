-- The return queue and the slices, one for one: what is due leaves the queue's front as the oldest slices cease to be recent, ticks
-- join the last entry as their slice grows, and a new entry is a new slice. Assumes nothing.
use mathlib.Core.Path.{◌≡◌, refl, ap, sym, ◌∙◌}
use mathlib.Core.Bool.{Bool, true, false, cond}
use mathlib.Core.List.{List, [], ◌∷◌, ◌++◌, map, reverse-cons}
use Prim.Native.Nat.{ℕ, ◌+◌, ◌≤◌, ◌<◌}
use native.Mathlib.Omega.{arith}
use lib.Dec.{leb}
use lib.ListN.{length, length-map, length-reverse}
use borrow.Author.Tests.{leb-true, le-leb, lt-leb, lt-ltb, le-ltb}
use Rattle.rules.specs.Vcpu.{Entry}
use Rattle.rules.specs.Charge.{to_last}
use Rattle.rules.specs.Return.{still}
use Rattle.rules.specs.Slices.{Slice, is_recent, recent, ticks_of, returns_of}
use Rattle.rules.proofs.Tests.{tests}
use Rattle.rules.proofs.Queue.{total, Rising}
use Rattle.rules.proofs.Slices.{Apart, longer}

-- what returns by `last` and then by `now` is what returns by `now`
pub still-again : (last now : ℕ) (q : List Entry) → last ≤ now → still now (still last q) ≡ still now q
still-again last now [] h = refl
still-again last now (e ∷ q) h = go (leb e.due last) refl (still-again last now q h)
  where
    go : (t : Bool) → leb e.due last ≡ t → still now (still last q) ≡ still now q
        → still now (cond t (still last q) (e ∷ q)) ≡ still now (e ∷ q)
    go true f ih = rw (le-leb e.due now (omega (arith, leb-true e.due last f))) ih
    go false f ih = refl

-- nothing is due
pub still-all : (now low high : ℕ) (q : List Entry) → Rising low high q → now < low → still now q ≡ q
still-all now low high [] r h = refl
still-all now low high (e ∷ q) r h = rw (lt-leb e.due now (omega (arith, r.0)))

still-behind : (now : ℕ) (e : Entry) (q : List Entry) → now < e.due → still now (q ++ e ∷ []) ≡ still now q ++ e ∷ []
still-behind now e [] h = rw (lt-leb e.due now h)
still-behind now e (f ∷ q) h = go (leb f.due now) (still-behind now e q h)
  where
    go : (t : Bool) → still now (q ++ e ∷ []) ≡ still now q ++ e ∷ []
        → cond t (still now (q ++ e ∷ [])) (f ∷ (q ++ e ∷ [])) ≡ cond t (still now q) (f ∷ q) ++ e ∷ []
    go true ih = ih
    go false ih = refl

still-none : (now : ℕ) (e : Entry) (q : List Entry) → e.due ≤ now → still now q ≡ [] → still now (q ++ e ∷ []) ≡ []
still-none now e [] h z = rw (le-leb e.due now h)
still-none now e (f ∷ q) h z = go (leb f.due now) z (still-none now e q h)
  where
    go : (t : Bool) → cond t (still now q) (f ∷ q) ≡ [] → (still now q ≡ [] → still now (q ++ e ∷ []) ≡ [])
        → cond t (still now (q ++ e ∷ [])) (f ∷ (q ++ e ∷ [])) ≡ []
    go true z ih = ih z
    go false z ih = let c : ◌≡◌ {A = ℕ} 0 1 = cc in absurd (omega arith)

-- the return of one slice
abbrev return_of : ℕ → Slice → Entry
return_of T s = record { due = s.start + T; amount = s.long }

returns_cons : (T : ℕ) (s : Slice) (ss : List Slice) → returns_of T (s ∷ ss) ≡ returns_of T ss ++ return_of T s ∷ []
returns_cons T s ss = reverse-cons (return_of T s) (map (return_of T) ss)

pub length_returns : (T : ℕ) (ss : List Slice) → length (returns_of T ss) ≡ length ss
length_returns T ss = length-reverse (map (return_of T) ss) ∙ length-map ss (return_of T)

total-behind : (e : Entry) (q : List Entry) → total (q ++ e ∷ []) ≡ total q + e.amount
total-behind e [] = omega arith
total-behind e (f ∷ q) = omega (arith, total-behind e q)

pub total_returns : (T : ℕ) (ss : List Slice) → total (returns_of T ss) ≡ ticks_of ss
total_returns T [] = refl
total_returns T (s ∷ ss) = ap total (returns_cons T s ss) ∙ omega (arith, total-behind (return_of T s) (returns_of T ss), total_returns T ss)

is-recent : (T now : ℕ) (s : Slice) → now < s.start + T → is_recent T now s ≡ true
is-recent T now s h = omega (arith, lt-ltb)

not-recent : (T now : ℕ) (s : Slice) → s.start + T ≤ now → is_recent T now s ≡ false
not-recent T now s h = omega (arith, le-ltb)

recent-says : (T now : ℕ) (s : Slice) → is_recent T now s ≡ true → now < s.start + T
recent-says T now s e = omega (arith, tests)

recent-not : (T now : ℕ) (s : Slice) → is_recent T now s ≡ false → s.start + T ≤ now
recent-not T now s e = omega (arith, tests)

-- slices that began no later than one period before `now`
none-recent : (T now n : ℕ) (ss : List Slice) → Apart n ss → n + T ≤ now → recent T now ss ≡ []
none-recent T now n [] a h = refl
none-recent T now n (s ∷ ss) a h =
    rw (not-recent T now s (omega (arith, a.1)))
    (none-recent T now s.start ss a.2 (omega (arith, a.1)))

-- as time goes on the oldest slices cease to be recent, and their returns leave the front
pub still_returns : (T last now n : ℕ) (ss : List Slice) → Apart n ss → last ≤ now
    → still now (returns_of T (recent T last ss)) ≡ returns_of T (recent T now ss)
still_returns T last now n [] a h = refl
still_returns T last now n (s ∷ ss) a h =
    go (is_recent T last s) refl (is_recent T now s) refl (still_returns T last now s.start ss a.2 h)
  where
    go : (t : Bool) → is_recent T last s ≡ t → (u : Bool) → is_recent T now s ≡ u
        → still now (returns_of T (recent T last ss)) ≡ returns_of T (recent T now ss)
        → still now (returns_of T (cond t (s ∷ recent T last ss) (recent T last ss)))
        ≡ returns_of T (cond u (s ∷ recent T now ss) (recent T now ss))
    go true e true f ih =
        ap (still now) (returns_cons T s (recent T last ss))
        ∙ still-behind now (return_of T s) (returns_of T (recent T last ss)) (recent-says T now s f)
        ∙ ap (λ (q : List Entry). q ++ return_of T s ∷ []) ih
        ∙ sym (returns_cons T s (recent T now ss))
    go true e false f ih =
        let k : s.start + T ≤ now = recent-not T now s f in
        let z : recent T now ss ≡ [] = none-recent T now s.start ss a.2 k in
        ap (still now) (returns_cons T s (recent T last ss))
        ∙ still-none now (return_of T s) (returns_of T (recent T last ss)) k (ih ∙ ap (returns_of T) z)
        ∙ sym (ap (returns_of T) z)
    go false e true f ih = absurd (omega (arith, recent-not T last s e, recent-says T now s f))
    go false e false f ih = ih

to_last_behind : (f : Entry → Entry) (e : Entry) (q : List Entry) → to_last f (q ++ e ∷ []) ≡ q ++ f e ∷ []
to_last_behind f e [] = refl
to_last_behind f e (a ∷ []) = refl
to_last_behind f e (a ∷ b ∷ q) = ap (λ (l : List Entry). a ∷ l) (to_last_behind f e (b ∷ q))

-- d ticks more join the last entry: its slice grows
pub returns_on : (T last d : ℕ) (s : Slice) (ss : List Slice) → last < s.start + T
    → to_last (λ e. record { due = e.due; amount = e.amount + d }) (returns_of T (recent T last (s ∷ ss)))
    ≡ returns_of T (recent T last (longer d s ∷ ss))
returns_on T last d s ss h =
    rw (is-recent T last s h)
    (ap (to_last (λ e. record { due = e.due; amount = e.amount + d })) (returns_cons T s (recent T last ss))
    ∙ to_last_behind _ (return_of T s) (returns_of T (recent T last ss))
    ∙ sym (returns_cons T (longer d s) (recent T last ss)))

-- a new entry is due one period after the start of its slice
pub returns_begin : (T last d : ℕ) (ss : List Slice) → 1 ≤ T
    → returns_of T (recent T last ss) ++ record { due = last + T; amount = d } ∷ []
    ≡ returns_of T (recent T last (record { start = last; long = d } ∷ ss))
returns_begin T last d ss h =
    rw (is-recent T last (record { start = last; long = d }) (omega arith))
    (sym (returns_cons T (record { start = last; long = d }) (recent T last ss)))

-- The table beside the rules' list: where an identifier stands, what is done to the one so named, where a newcomer goes, and
-- what remove leaves. Assumes nothing.
use Prim.Native.Nat.{ℕ, zero, suc, ◌≤◌, ◌<◌}
use mathlib.Core.Path.{◌≡◌, refl, ap, sym, ◌∙◌, subst}
use mathlib.Core.Bool.{Bool, true, false, cond, not, ◌||◌}
use mathlib.Core.List.{List, [], ◌∷◌}
use mathlib.Core.Option.{some}
use native.Mathlib.Omega.{arith}
use lib.Dec.{ltb, eqb}
use lib.ListN.{length, get_or, set}
use borrow.Author.Tests.{eqb-true, ne_eqb, le-ltb}
use Rattle.units.specs.Units.{tunnel}
use Rattle.units.specs.declared.Tunnel.{Tunnel}
use Rattle.rules.specs.Lists.{keep, any, All}
use Rattle.rules.specs.Limits.{largest_tunnel}
use Rattle.rules.specs.Vcpu.{more_urgent, named}
use Rattle.rules.specs.Vcpu.{Description as Terms}
use Rattle.rules.specs.Vcpu.{Vcpu as Tenant}
use Rattle.rules.specs.Card.{on_card, find, to_named}
use Rattle.rules.specs.Change.{placed}
use Rattle.rules.proofs.Tests.{clash}
use Rattle.turns.specs.declared.Vcpu.{Vcpu}
use Rattle.turns.specs.Laid.{laid}
use Rattle.turns.specs.Written.{nobody, tunnel_of, written, no_tenant, place}
use Rattle.turns.proofs.Invariant.{Distinct, terms_of}
use Rattle.turns.specs.Places.{seek, urgency, spot_in}
use Rattle.turns.proofs.Laid.{put_at, cut_at}

-- the place of one that is there, and of one that is not
pub place-there : (t : ℕ) (vs : List Tenant) → on_card t vs ≡ true → place t vs < length vs
place-there t [] e = clash (sym e)
place-there t (v ∷ vs) e = go (named t v) e (place-there t vs)
  where
    go : (b : Bool) → b || on_card t vs ≡ true → (on_card t vs ≡ true → place t vs < length vs)
        → cond b 0 (suc (place t vs)) < suc (length vs)
    go true f rec = omega arith
    go false f rec = let h : place t vs < length vs = rec f in omega arith

pub find-there : (t : ℕ) (vs : List Tenant) → on_card t vs ≡ true → find t vs ≡ some (get_or vs (place t vs) no_tenant)
find-there t [] e = clash (sym e)
find-there t (v ∷ vs) e = go (named t v) e (find-there t vs)
  where
    go : (b : Bool) → b || on_card t vs ≡ true → (on_card t vs ≡ true → find t vs ≡ some (get_or vs (place t vs) no_tenant))
        → cond b (some v) (find t vs) ≡ some (get_or (v ∷ vs) (cond b 0 (suc (place t vs))) no_tenant)
    go true f rec = refl
    go false f rec = rec f

pub seek-laid : (t : ℕ) (k : ℕ) (vs : List Tenant) → t ≤ largest_tunnel → length vs ≤ k
    → seek t (laid k tunnel_of (tunnel nobody) vs) ≡ cond (on_card t vs) (place t vs) k
unfolding laid
seek-laid t zero [] h g = refl
seek-laid t (suc k) [] h g = rw (ne_eqb nobody t (omega arith)) (ap suc (seek-laid t k [] h (omega arith)))
seek-laid t zero (v ∷ vs) h g = absurd (omega arith)
seek-laid t (suc k) (v ∷ vs) h g = go (named t v) (seek-laid t k vs h (omega arith))
  where
    out : (b : Bool) → suc (cond b (place t vs) k) ≡ cond b (suc (place t vs)) (suc k)
    out true = refl
    out false = refl

    go : (b : Bool) → seek t (laid k tunnel_of (tunnel nobody) vs) ≡ cond (on_card t vs) (place t vs) k
        → cond b 0 (suc (seek t (laid k tunnel_of (tunnel nobody) vs))) ≡ cond (b || any (named t) vs) (cond b 0 (suc (place t vs))) (suc k)
    go true rec = refl
    go false rec = ap suc rec ∙ out (any (named t) vs)

-- nothing happens to a list in which nobody is so named
others : (t : ℕ) (f : Tenant → Tenant) (vs : List Tenant) → All (λ e. e.tunnel ≡ t → ⊥) (terms_of vs) → to_named t f vs ≡ vs
others t f [] h = refl
others t f (v ∷ vs) h = rw (ne_eqb v.terms.tunnel t h.0) (ap (λ (r : List Tenant). v ∷ r) (others t f vs h.1))

-- doing something to the one so named is setting its place
pub named_set : (t : ℕ) (f : Tenant → Tenant) (z : Tenant) (vs : List Tenant) → Distinct (terms_of vs) → place t vs < length vs
    → to_named t f vs ≡ set vs (place t vs) (f (get_or vs (place t vs) z))
named_set t f z [] d h = absurd (omega arith)
named_set t f z (v ∷ vs) d h = go (named t v) refl h (named_set t f z vs d.1)
  where
    go : (b : Bool) → named t v ≡ b → cond b 0 (suc (place t vs)) < suc (length vs)
        → (place t vs < length vs → to_named t f vs ≡ set vs (place t vs) (f (get_or vs (place t vs) z)))
        → cond b (f v) v ∷ to_named t f vs ≡ set (v ∷ vs) (cond b 0 (suc (place t vs))) (f (get_or (v ∷ vs) (cond b 0 (suc (place t vs))) z))
    go true e g rec = ap (λ (r : List Tenant). f v ∷ r)
        (others t f vs (subst (λ (n : ℕ). All (λ e'. e'.tunnel ≡ n → ⊥) (terms_of vs)) (eqb-true
        v.terms.tunnel t e) d.0))
    go false e g rec = ap (λ (r : List Tenant). v ∷ r) (rec (omega arith))

keeps : (t : ℕ) (vs : List Tenant) → All (λ e. e.tunnel ≡ t → ⊥) (terms_of vs) → keep (λ v. not (named t v)) vs ≡ vs
keeps t [] h = refl
keeps t (v ∷ vs) h = rw (ne_eqb v.terms.tunnel t h.0) (ap (λ (r : List Tenant). v ∷ r) (keeps t vs h.1))

-- remove takes out the place of the one so named
pub removed-cut : (t : ℕ) (vs : List Tenant) → Distinct (terms_of vs) → place t vs < length vs
    → keep (λ v. not (named t v)) vs ≡ cut_at (place t vs) vs
removed-cut t [] d h = absurd (omega arith)
removed-cut t (v ∷ vs) d h = go (named t v) refl h (removed-cut t vs d.1)
  where
    go : (b : Bool) → named t v ≡ b → cond b 0 (suc (place t vs)) < suc (length vs)
        → (place t vs < length vs → keep (λ w. not (named t w)) vs ≡ cut_at (place t vs) vs)
        → cond (not b) (v ∷ keep (λ w. not (named t w)) vs) (keep (λ w. not (named t w)) vs) ≡ cut_at (cond b 0 (suc (place t vs))) (v ∷ vs)
    go true e g rec = keeps t vs (subst (λ (n : ℕ). All (λ e'. e'.tunnel ≡ n → ⊥) (terms_of vs)) (eqb-true v.terms.tunnel t e) d.0)
    go false e g rec = ap (λ (r : List Tenant). v ∷ r) (rec (omega arith))

-- the place of a newcomer
abbrev pub spot_of : Tenant → List Tenant → ℕ
spot_of a [] = 0
spot_of a (w ∷ ws) = cond (more_urgent a.terms w.terms) 0 (suc (spot_of a ws))

pub spot_most : (a : Tenant) (vs : List Tenant) → spot_of a vs ≤ length vs
spot_most a [] = omega arith
spot_most a (w ∷ ws) = go (more_urgent a.terms w.terms) (spot_most a ws)
  where
    go : (b : Bool) → spot_of a ws ≤ length ws → cond b 0 (suc (spot_of a ws)) ≤ suc (length ws)
    go true rec = omega arith
    go false rec = omega arith

pub placed-put : (a : Tenant) (vs : List Tenant) → placed a vs ≡ put_at (spot_of a vs) a vs
placed-put a [] = refl
placed-put a (w ∷ ws) = go (more_urgent a.terms w.terms) (placed-put a ws)
  where
    go : (b : Bool) → placed a ws ≡ put_at (spot_of a ws) a ws
        → cond b (a ∷ w ∷ ws) (w ∷ placed a ws) ≡ put_at (cond b 0 (suc (spot_of a ws))) a (w ∷ ws)
    go true rec = refl
    go false rec = ap (λ (r : List Tenant). w ∷ r) rec

-- the more urgent of two, by priority and identifier alone
pub level_urgent : (a b : Terms) → eqb a.priority b.priority ≡ true → ltb a.tunnel b.tunnel ≡ more_urgent a b
unfolding more_urgent
level_urgent a b e =
    let p : a.priority ≡ b.priority = eqb-true a.priority b.priority e in
    rw (le-ltb a.priority b.priority (omega arith), e)

pub apart-urgent : (a b : Terms) → eqb a.priority b.priority ≡ false → ltb a.priority b.priority ≡ more_urgent a b
unfolding more_urgent
apart-urgent a b e = rw e (go (ltb a.priority b.priority))
  where
    go : (t : Bool) → t ≡ t || false
    go true = refl
    go false = refl

terms-urgent : (a b : Terms) → more_urgent a (urgency b.priority b.tunnel) ≡ more_urgent a b
unfolding more_urgent
terms-urgent a b = refl

pub spot_laid : (a : Tenant) (y : Vcpu) (z : Tunnel) (k : ℕ) (vs : List Tenant) → length vs ≤ k
    → spot_in a.terms (length vs) (laid k written y vs) (laid k tunnel_of z vs) ≡ spot_of a vs
unfolding laid written
spot_laid a y z k [] l = refl
spot_laid a y z zero (v ∷ vs) l = absurd (omega arith)
spot_laid a y z (suc k) (v ∷ vs) l = rw (terms-urgent a.terms v.terms, spot_laid a y z k vs (omega arith))

-- a newcomer's place is one of the first n, or the one behind them
pub spot_within : (d : Terms) (n : ℕ) (vs : List Vcpu) (ts : List Tunnel) → spot_in d n vs ts ≤ n
spot_within d zero vs ts = omega arith
spot_within d (suc n) [] ts = omega arith
spot_within d (suc n) (v ∷ vs) [] = omega arith
spot_within d (suc n) (v ∷ vs) (t ∷ ts) = go (more_urgent d (urgency v.priority t.0)) (spot_within d n vs ts)
  where
    go : (b : Bool) → spot_in d n vs ts ≤ n → cond b 0 (suc (spot_in d n vs ts)) ≤ suc n
    go true h = omega arith
    go false h = omega (arith, h)

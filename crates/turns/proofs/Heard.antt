-- The times reported, by the places of the VCPUs that they were reported of: after step 2, and through each change. One that the call
-- admits has none, and one that stays has its own. Assumes nothing.
use Prim.Native.Nat.{ℕ, ◌≤◌}
use mathlib.Core.Path.{◌≡◌, refl, ap, sym, ◌∙◌}
use mathlib.Core.Bool.{Bool, true, false, cond}
use mathlib.Core.List.{List, [], ◌∷◌}
use mathlib.Core.Option.{Option}
use lib.Dec.{eqb}
use Rattle.units.specs.Units.{moment}
use Rattle.units.specs.declared.Moment.{Moment}
use Rattle.rules.specs.Limits.{largest_time}
use Rattle.rules.specs.Lists.{All, count}
use Rattle.rules.specs.Vcpu.{named}
use Rattle.rules.specs.Vcpu.{Description as Terms}
use Rattle.rules.specs.Vcpu.{Vcpu as Tenant}
use Rattle.rules.specs.Card.{on_card, to_named}
use Rattle.rules.specs.Return.{returned, bring}
use Rattle.rules.specs.Change.{set_runnable}
use Rattle.rules.specs.Told.{Told, tell, time_told}
use Rattle.rules.proofs.Tests.{clash}
use Rattle.rules.proofs.Lists.{all_among, all_every, among_all, any_false, map_among}
use Rattle.rules.proofs.Named.{is-named}
use Rattle.rules.proofs.ThreeKinds.{terms-returned}
use Rattle.rules.proofs.Told.{told_of, none_told}
use Rattle.rules.proofs.Sound.{Sound}
use Rattle.turns.specs.Laid.{laid}
use Rattle.turns.specs.Written.{never, timer_of}
use Rattle.turns.proofs.Laid.{laid-map}
use Rattle.turns.proofs.Choose.{next-head}
use Rattle.turns.proofs.Settle.{calm-one}
use Rattle.turns.specs.Tenants.{head_then}

-- the time reported of a tenant, or the time above all
abbrev pub said_of : List Told → Tenant → Moment
said_of ts v = moment (timer_of (time_told ts v))

-- by their places
abbrev pub times_of : List Told → List Tenant → List Moment
times_of ts vs = laid 32 (said_of ts) (moment never) vs

-- after step 2; `us` are the tenants after the charge
pub heard-returned : (now : ℕ) (us : List Tenant) → now ≤ largest_time → ((t : ℕ) → count (named t) us ≤ 1) → All (Sound now) (bring now us)
    → laid 32 (head_then now) (moment never) us ≡ times_of (tell now us) (bring now us)
heard-returned now us l once s =
    laid-map (head_then now) (said_of (tell now us)) (returned now) (moment never) 32 us
    (among_all (λ u. head_then now u ≡ said_of (tell now us) (returned now u)) us
    (λ u m. let k = all_among (Sound now) (bring now us) s (returned now u) (map_among (returned now) us u m) in
    ap moment (next-head (returned now u) (calm-one now (returned now u) l k))
    ∙ ap (λ (o : Option ℕ). moment (timer_of o))
    (sym (told_of now us once u m (returned now u) (ap (λ (d : Terms). d.tunnel) (terms-returned now u))))))

-- the identifier alone matters, so a mark does not
said-terms : (ts : List Told) (v w : Tenant) → v.terms ≡ w.terms → time_told ts v ≡ time_told ts w
said-terms [] v w e = refl
said-terms (t ∷ ts) v w e =
    rw (ap (λ (d : Terms). eqb d.tunnel t.who) e, said-terms ts v w e)

pub heard-marked : (ts : List Told) (t : ℕ) (b : Bool) (vs : List Tenant) → times_of ts vs ≡ times_of ts (to_named t (set_runnable b) vs)
heard-marked ts t b vs =
    laid-map (said_of ts) (said_of ts) (λ v. cond (named t v) (set_runnable b v) v) (moment never) 32 vs
    (all_every (λ v. ap (λ (o : Option ℕ). moment (timer_of o)) (go v (named t v))) vs)
  where
    go : (v : Tenant) (c : Bool) → time_told ts v ≡ time_told ts (cond c (set_runnable b v) v)
    go v true = said-terms ts v (set_runnable b v) refl
    go v false = refl

-- one that is not there has none
pub heard-new : (now : ℕ) (us : List Tenant) (new : Tenant) → on_card new.terms.tunnel (bring now us) ≡ false
    → said_of (tell now us) new ≡ moment never
heard-new now us new e =
    ap (λ (o : Option ℕ). moment (timer_of o))
    (none_told now us new
    (among_all (λ u. u.terms.tunnel ≡ new.terms.tunnel → ⊥) us
    (λ u m f. clash (sym (is-named new.terms.tunnel (returned now u)
    (ap (λ (d : Terms). d.tunnel) (terms-returned now u) ∙ f))
    ∙ all_among (λ v. named new.terms.tunnel v ≡ false) (bring now us)
    (any_false (named new.terms.tunnel) (bring now us) e) (returned now u) (map_among (returned now) us u m)))))

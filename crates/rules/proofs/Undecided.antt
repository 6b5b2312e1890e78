-- No rule looks at a total: cards that differ in totals alone give equal replies to every call, and differ in totals alone afterwards.
-- Assumes nothing.
use mathlib.Core.Path.{◌≡◌, refl, ap, sym, ◌∙◌}
use mathlib.Core.Bool.{Bool, true, false, cond, not}
use mathlib.Core.List.{List, [], ◌∷◌, map}
use mathlib.Core.Option.{Option, none, some}
use Prim.Native.Nat.{ℕ, ◌+◌}
use lib.Dec.{leb}
use lib.ListN.{length-map}
use Rattle.rules.specs.Lists.{keep}
use Rattle.rules.specs.Vcpu.{Vcpu, admitted, more_urgent, named}
use Rattle.rules.specs.Remember.{Remembered, left_by, kept}
use Rattle.rules.specs.Card.{Card, on_card, find}
use Rattle.rules.specs.Charge.{posted, no_ticks, charged_some, charged, charge}
use Rattle.rules.specs.Return.{brought, brought_in, refilled, refill, returned, bring}
use Rattle.rules.specs.Change.{Change, admit, wake, block, remove, tick, placed, set_runnable, change, leaving}
use Rattle.rules.specs.Choose.{ready, better, most_urgent, choose, runs, usable_of}
use Rattle.rules.specs.Timer.{earliest, next, nexts, runnable, above, timer}
use Rattle.rules.specs.Told.{Told, adds, tells, tell, total}
use Rattle.rules.specs.Refuse.{Refusal, call_rows, refusal}
use Rattle.rules.specs.Turn.{Call, Reply, ok, turn, settled, accepted, reported, answered}
use Rattle.rules.specs.Turn.{after_charge, after_return, after_change}
use Rattle.rules.proofs.Lists.{any_same}
use Rattle.rules.specs.Accounts.{without_its, without_totals, SameButTotals, Undecided, with_others, with_totals}
use Rattle.rules.specs.Accounts.{after_these, replies_to, NoDecision}

-- a step on one VCPU that does not look at its totals
abbrev Blind : (Vcpu → Vcpu) → Type 0
Blind f = (v : Vcpu) → without_its (f v) ≡ without_its (f (without_its v))

-- it may be done to the VCPUs with their totals or without
blind-map : (f : Vcpu → Vcpu) → Blind f → (vs : List Vcpu) → map without_its (map f vs) ≡ map without_its (map f (map without_its vs))
blind-map f b [] = refl
blind-map f b (v ∷ vs) = rw (b v, blind-map f b vs)

blind-charged : (last now : ℕ) → Blind (charged last now)
unfolding charged posted
blind-charged last now v = go (no_ticks last now)
  where
    go : (b : Bool) → without_its (cond b v (charged_some last now v))
        ≡ without_its (cond b (without_its v) (charged_some last now (without_its v)))
    go true = refl
    go false = refl

blind-returned : (now : ℕ) → Blind (returned now)
blind-returned now v = go v.boundary
  where
    go : (o : Option ℕ) → without_its (refill now o (brought_in now v)) ≡ without_its (refill now o (brought_in now (without_its v)))
    go none = refl
    go (some b) = by (leb b now)
      where
        by : (t : Bool) → without_its (cond t (refilled now b (brought_in now v)) (brought_in now v))
            ≡ without_its (cond t (refilled now b (brought_in now (without_its v))) (brought_in now (without_its v)))
        by true = refl
        by false = refl

blind-set : (b : Bool) → Blind (set_runnable b)
blind-set b v = refl

blind-named : (t : ℕ) (f : Vcpu → Vcpu) → Blind f → Blind (λ v. cond (named t v) (f v) v)
blind-named t f b v = go (named t v)
  where
    go : (n : Bool) → without_its (cond n (f v) v) ≡ without_its (cond n (f (without_its v)) (without_its v))
    go true = b v
    go false = refl

-- VCPUs without their totals
abbrev bare : List Vcpu → List Vcpu
bare vs = map without_its vs

bare_twice : (vs : List Vcpu) → bare (bare vs) ≡ bare vs
bare_twice [] = refl
bare_twice (v ∷ vs) = ap (λ (l : List Vcpu). without_its v ∷ l) (bare_twice vs)

-- steps 1 and 2
bare-charge : (last now : ℕ) (o : Option ℕ) (vs : List Vcpu) → bare (charge last now o vs) ≡ bare (charge last now o (bare vs))
bare-charge last now none vs = sym (bare_twice vs)
bare-charge last now (some t) vs = blind-map _ (blind-named t (charged last now) (blind-charged last now)) vs

bare-bring : (now : ℕ) (us ws : List Vcpu) → bare us ≡ bare ws → bare (bring now us) ≡ bare (bring now ws)
bare-bring now us ws e =
    blind-map (returned now) (blind-returned now) us
    ∙ ap (λ (l : List Vcpu). bare (bring now l)) e ∙ sym (blind-map (returned now) (blind-returned now) ws)

-- step 3
bare-placed : (v : Vcpu) (vs : List Vcpu) → bare (placed v vs) ≡ bare (placed v (bare vs))
bare-placed v [] = refl
bare-placed v (w ∷ vs) = go (more_urgent v.terms w.terms) (bare-placed v vs)
  where
    go : (b : Bool) → bare (placed v vs) ≡ bare (placed v (bare vs))
        → bare (cond b (v ∷ w ∷ vs) (w ∷ placed v vs)) ≡ bare (cond b (v ∷ without_its w ∷ bare vs) (without_its w ∷ placed v (bare vs)))
    go true e = ap (λ (l : List Vcpu). without_its v ∷ without_its w ∷ l) (sym (bare_twice vs))
    go false e = ap (λ (l : List Vcpu). without_its w ∷ l) e

-- those that pass a test that does not look at totals
keep-bare : (f g : Vcpu → Bool) → ((v : Vcpu) → f (without_its v) ≡ g v) → (vs : List Vcpu) → keep f (bare vs) ≡ bare (keep g vs)
keep-bare f g same [] = refl
keep-bare f g same (v ∷ vs) = rw (same v) (go (g v) (keep-bare f g same vs))
  where
    go : (b : Bool) → keep f (bare vs) ≡ bare (keep g vs)
        → cond b (without_its v ∷ keep f (bare vs)) (keep f (bare vs)) ≡ bare (cond b (v ∷ keep g vs) (keep g vs))
    go true e = ap (λ (l : List Vcpu). without_its v ∷ l) e
    go false e = e

bare-change : (now : ℕ) (asked : Change) (vs : List Vcpu) → bare (change now asked vs) ≡ bare (change now asked (bare vs))
bare-change now (admit d) vs = bare-placed (admitted now d) vs
bare-change now (wake t) vs = blind-map _ (blind-named t (set_runnable true) (blind-set true)) vs
bare-change now (block t) vs = blind-map _ (blind-named t (set_runnable false) (blind-set false)) vs
bare-change now (remove t) vs =
    sym (ap bare (keep-bare (λ v. not (named t v)) (λ v. not (named t v)) (λ v. refl) vs) ∙ bare_twice (keep (λ v. not (named t v)) vs))
bare-change now tick vs = sym (bare_twice vs)

abbrev bare_of : Option Vcpu → Option Vcpu
bare_of none = none
bare_of (some v) = some (without_its v)

find-bare : (t : ℕ) (vs : List Vcpu) → find t (bare vs) ≡ bare_of (find t vs)
find-bare t [] = refl
find-bare t (v ∷ vs) = go (named t v) (find-bare t vs)
  where
    go : (b : Bool) → find t (bare vs) ≡ bare_of (find t vs)
        → cond b (some (without_its v)) (find t (bare vs)) ≡ bare_of (cond b (some v) (find t vs))
    go true e = refl
    go false e = e

leaving-bare : (asked : Change) (vs : List Vcpu) → leaving asked (bare vs) ≡ leaving asked vs
leaving-bare (admit d) vs = refl
leaving-bare (wake t) vs = refl
leaving-bare (block t) vs = refl
leaving-bare (remove t) vs = ap left_by (find-bare t vs) ∙ go (find t vs)
  where
    go : (o : Option Vcpu) → left_by (bare_of o) ≡ left_by o
    go none = refl
    go (some v) = refl
leaving-bare tick vs = refl

-- step 4
choose-bare : (vs : List Vcpu) → choose (bare vs) ≡ bare_of (choose vs)
choose-bare vs = ap most_urgent (keep-bare ready ready (λ v. refl) vs) ∙ most (keep ready vs)
  where
    best : (v : Vcpu) (o : Option Vcpu) → better (without_its v) (bare_of o) ≡ without_its (better v o)
    best v none = refl
    best v (some w) = go (more_urgent w.terms v.terms)
      where
        go : (b : Bool) → cond b (without_its w) (without_its v) ≡ without_its (cond b w v)
        go true = refl
        go false = refl

    most : (vs : List Vcpu) → most_urgent (bare vs) ≡ bare_of (most_urgent vs)
    most [] = refl
    most (v ∷ vs) = ap (λ (o : Option Vcpu). some (better (without_its v) o)) (most vs) ∙ ap some (best v (most_urgent vs))

-- step 5
nexts-bare : (vs : List Vcpu) → nexts (bare vs) ≡ nexts vs
nexts-bare [] = refl
nexts-bare (v ∷ vs) = rw (nexts-bare vs)

timer-bare : (now : ℕ) (vs : List Vcpu) (o : Option Vcpu) → timer now (bare vs) (bare_of o) ≡ timer now vs o
unfolding timer
timer-bare now vs none = ap earliest (ap nexts (keep-bare runnable runnable (λ v. refl) vs) ∙ nexts-bare (keep runnable vs))
timer-bare now vs (some v) =
    rw (keep-bare (above (without_its v)) (above v) (λ w. refl) vs, nexts-bare (keep (above v) vs))

-- what step 2 reports
tell-bare : (now : ℕ) (vs : List Vcpu) → tell now (bare vs) ≡ tell now vs
tell-bare now [] = refl
tell-bare now (v ∷ vs) = rw (tell-bare now vs) (ap (λ (t : Told). t ∷ tell now vs) tells-bare)
  where
    adds-bare : (o : Option ℕ) → adds now o (without_its v) ≡ adds now o v
    adds-bare none = refl
    adds-bare (some b) = refl

    tells-bare : tells now (without_its v) ≡ tells now v
    tells-bare =
        ap (λ (n : ℕ). record { who = v.terms.tunnel; ticks = brought now v.pending + n; next = next (returned now (without_its v)) })
        (adds-bare v.boundary)
        ∙ ap (λ (w : Vcpu). record { who = v.terms.tunnel; ticks = (tells now v).ticks; next = next w }) (sym (blind-returned now v))

-- the refusals
rows-bare : (vs : List Vcpu) (rs : List Remembered) (asked : Change) → call_rows (bare vs) rs asked ≡ call_rows vs rs asked
rows-bare vs rs (admit d) = rw (there d.tunnel, length-map vs without_its)
  where
    there : (t : ℕ) → on_card t (bare vs) ≡ on_card t vs
    there t = any_same (named t) (named t) without_its vs (λ v. refl)
rows-bare vs rs (wake t) = rw (any_same (named t) (named t) without_its vs (λ v. refl))
rows-bare vs rs (block t) = rw (any_same (named t) (named t) without_its vs (λ v. refl))
rows-bare vs rs (remove t) = rw (any_same (named t) (named t) without_its vs (λ v. refl))
rows-bare vs rs tick = refl

-- VCPUs that differ in totals alone choose the same one, with the same timer
module _ (now : ℕ) (us ws : List Vcpu) (e : bare us ≡ bare ws) where
  same-run : runs (choose us) ≡ runs (choose ws)
  same-run = sym (its us) ∙ ap (λ (l : List Vcpu). runs (choose l)) e ∙ its ws
    where
      go : (o : Option Vcpu) → runs (bare_of o) ≡ runs o
      go none = refl
      go (some v) = refl

      its : (vs : List Vcpu) → runs (choose (bare vs)) ≡ runs (choose vs)
      its vs = ap runs (choose-bare vs) ∙ go (choose vs)

  same-usable : usable_of (choose us) ≡ usable_of (choose ws)
  same-usable = sym (its us) ∙ ap (λ (l : List Vcpu). usable_of (choose l)) e ∙ its ws
    where
      go : (o : Option Vcpu) → usable_of (bare_of o) ≡ usable_of o
      go none = refl
      go (some v) = refl

      its : (vs : List Vcpu) → usable_of (choose (bare vs)) ≡ usable_of (choose vs)
      its vs = ap usable_of (choose-bare vs) ∙ go (choose vs)

  same-timer : timer now us (choose us) ≡ timer now ws (choose ws)
  same-timer = sym (its us) ∙ ap (λ (l : List Vcpu). timer now l (choose l)) e ∙ its ws
    where
      its : (vs : List Vcpu) → timer now (bare vs) (choose (bare vs)) ≡ timer now vs (choose vs)
      its vs = ap (timer now (bare vs)) (choose-bare vs) ∙ timer-bare now vs (choose vs)

  same-told : total (tell now us) ≡ total (tell now ws)
  same-told = ap total (sym (tell-bare now us) ∙ ap (tell now) e ∙ tell-bare now ws)

  same_left : (asked : Change) → leaving asked us ≡ leaving asked ws
  same_left asked = sym (leaving-bare asked us) ∙ ap (leaving asked) e ∙ leaving-bare asked ws

  same-change : (asked : Change) → bare (change now asked us) ≡ bare (change now asked ws)
  same-change asked =
      bare-change now asked us ∙ ap (λ (l : List Vcpu). bare (change now asked l)) e ∙ sym (bare-change now asked ws)

-- a card and the same one without its totals
module _ (c : Card) (call : Call) where
  abbrev d : Card
  d = without_totals c

  after-charge : bare (after_charge c call.now) ≡ bare (after_charge d call.now)
  after-charge = bare-charge c.last call.now c.running c.vcpus

  after-return : bare (after_return c call.now) ≡ bare (after_return d call.now)
  after-return = bare-bring call.now (after_charge c call.now) (after_charge d call.now) after-charge

  after-change : bare (after_change c call) ≡ bare (after_change d call)
  after-change = same-change call.now (after_return c call.now) (after_return d call.now) after-return call.asked

  same-refusal : refusal d call.now call.asked ≡ refusal c call.now call.asked
  unfolding refusal
  same-refusal = rw (rows-bare c.vcpus (kept call.now c.remembered) call.asked)

  same-reported : reported c call ≡ reported d call
  unfolding settled
  same-reported =
      rw (
        same-run call.now (after_change c call) (after_change d call) after-change,
        same-usable call.now (after_change c call) (after_change d call) after-change,
        same-timer call.now (after_change c call) (after_change d call) after-change,
        same-told call.now (after_charge c call.now) (after_charge d call.now) after-charge,
      )

  same-accepted : without_totals (accepted c call) ≡ without_totals (accepted d call)
  unfolding settled
  same-accepted =
      rw (
        same-run call.now (after_change c call) (after_change d call) after-change,
        same-timer call.now (after_change c call) (after_change d call) after-change,
        after-change,
        same_left call.now (after_return c call.now) (after_return d call.now) after-return call.asked,
      )

  without : ((turn c call).reply ≡ (turn d call).reply) × (without_totals (turn c call).card ≡ without_totals (turn d call).card)
  unfolding turn
  without = rw same-refusal (go (refusal c call.now call.asked))
    where
      go : (o : Option Refusal) → ((answered c call o).reply ≡ (answered d call o).reply)
          × (without_totals (answered c call o).card ≡ without_totals (answered d call o).card)
      go none = (ap ok same-reported, same-accepted)
      go (some r) = (refl, rw (bare_twice c.vcpus))

pub undecided : (c d : Card) → SameButTotals c d → (call : Call) → Undecided c d call
undecided c d e call =
    record {
      same-reply = (without c call).0 ∙ ap (λ (x : Card). (turn x call).reply) e ∙ sym (without d call).0;
      same_after = (without c call).1 ∙ ap (λ (x : Card). without_totals (turn x call).card) e ∙ sym (without d call).1;
    }

-- so any calls get equal replies
equal_replies : (c d : Card) → SameButTotals c d → (calls : List Call) → replies_to c calls ≡ replies_to d calls
equal_replies c d e [] = refl
equal_replies c d e (call ∷ calls) =
    ap (λ (r : Reply). r ∷ replies_to c calls) (undecided (after_these c calls) (after_these d calls) (still calls) call).same-reply
    ∙ ap (λ (l : List Reply). (turn (after_these d calls) call).reply ∷ l) (equal_replies c d e calls)
  where
    still : (calls : List Call) → SameButTotals (after_these c calls) (after_these d calls)
    still [] = e
    still (call ∷ calls) = (undecided (after_these c calls) (after_these d calls) (still calls) call).same_after

-- and these are cards with whatever totals
pub no_decision : (c : Card) → NoDecision c
no_decision c p h g i = (other, equal_replies (with_totals p h g i c) c other)
  where
    rest : (vs : List Vcpu) → bare (map (with_others p h) vs) ≡ bare vs
    rest [] = refl
    rest (v ∷ vs) = ap (λ (l : List Vcpu). without_its v ∷ l) (rest vs)

    other : SameButTotals (with_totals p h g i c) c
    other = rw (rest c.vcpus)

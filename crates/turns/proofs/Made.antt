-- The theorem that ties the code to the rules: the card that the empty one and the calls make, each call by the function that the
-- contracts cite, is exactly the card that the rules make of the same calls; and a core is what its card is written as. So whatever is
-- proved of the rules' cards holds of every core that a host can hold. Assumes nothing.
use Prim.Native.Nat.{◌≤◌}
use mathlib.Core.Path.{◌≡◌, refl, ap, sym, ◌∙◌, subst}
use mathlib.Core.List.{List, [], ◌∷◌}
use mathlib.Core.Option.{Option, none, some}
use native.Mathlib.Omega.{arith}
use lib.ListN.{length}
use Rattle.units.specs.declared.Moment.{Moment}
use Rattle.rules.specs.Card.{Card}
use Rattle.rules.specs.Refuse.{refusal}
use Rattle.rules.specs.Refuse.{Refusal as Row}
use Rattle.rules.specs.Turn.{Call, turn, answered, accepted, settled, after_change, remembered_then}
use Rattle.rules.specs.Meaning.{Meaning}
use Rattle.rules.proofs.Accepted.{Passed, passed}
use Rattle.rules.proofs.Reached.{card-accepted}
use Rattle.rules.proofs.Meaning.{meaning}
use Rattle.rules.specs.History.{after}
use Rattle.turns.specs.declared.Core.TheInside.{Inside}
use Rattle.turns.specs.declared.Change.{Change}
use Rattle.turns.specs.Written.{card, core_of}
use Rattle.turns.proofs.Invariant.{SoundCore, Between, Ranked, terms_of, between-at}
use Rattle.turns.specs.Calls.{asked, call_of, turned}
use Rattle.turns.specs.State.{Asking, made, calls_of, IsCore}
use Rattle.turns.proofs.Shape.{change-ranked}
use Rattle.turns.proofs.Settle.{shown-again, empty-shown}

-- the card that calls make is the rules' card after the same calls
pub made_so : (l : List Asking) → made l ≡ after (calls_of l)
unfolding turned
made_so [] = refl
made_so (a ∷ l) = ap (λ (c : Card). (turn c (call_of a.now a.change)).card) (made_so l)

-- a card and the calls that made it
pub record MadeBy (k : Card) : Type 0 where
  pub calls : List Call
  pub shows : k ≡ after calls
  pub ranked : Ranked (terms_of k.vcpus)

-- an accepted call: the tenants handed back are those of the rules' card after one call more
module _ (k : Card) (r : MadeBy k) (now : Moment) (change : Change) (e : refusal k now.0 (asked change) ≡ none) where
  meets : Passed k now.0 (asked change)
  meets = passed k now.0 (asked change) e

  next-card : accepted k (call_of now change) ≡ after (call_of now change ∷ r.calls)
  next-card = sym (card-accepted k (call_of now change) e) ∙ ap (λ (c : Card). (turn c (call_of now change)).card) r.shows

  pub next-between : Between now.0 (after_change k (call_of now change))
  unfolding settled
  next-between =
      between-at (accepted k (call_of now change)) (call_of now change ∷ r.calls) next-card
      (change-ranked k now.0 change meets.asked_for r.ranked)

  -- and few are remembered then
  pub next-few : length (remembered_then k (call_of now change)) ≤ 32
  unfolding settled
  next-few =
      let m : Meaning (accepted k (call_of now change)) = subst Meaning (sym next-card) (meaning (call_of now change ∷ r.calls)) in
      omega (arith, m.few-together)

-- one call more, and any number
one-call : (k : Card) → MadeBy k → (now : Moment) (change : Change) → MadeBy (turn k (call_of now change)).card
unfolding turn settled
one-call k r now change = go (refusal k now.0 (asked change)) refl
  where
    go : (o : Option Row) → refusal k now.0 (asked change) ≡ o → MadeBy (answered k (call_of now change) o).card
    go none e =
        record {
          calls = call_of now change ∷ r.calls;
          shows = next-card k r now change e;
          ranked = (next-between k r now change e).ranked;
        }
    go (some x) e = r

pub made-by : (l : List Asking) → MadeBy (made l)
unfolding turned
made-by [] = record { calls = []; shows = refl; ranked = tt }
made-by (a ∷ l) = one-call (made l) (made-by l) a.now a.change

pub of-made : (k : Card) (l : List Asking) → k ≡ made l → MadeBy k
of-made k l e = subst MadeBy (sym e) (made-by l)

-- what every core in a contract is known to be
pub sound : (c : Inside) → IsCore c → SoundCore c
sound c v =
    let m : MadeBy (card c) = of-made (card c) v.calls v.made_by in
    record { written = v.written; calls = m.calls; shows = m.shows; ranked = m.ranked }

-- a card that calls make is shown again by the core that it is written as
shown-after : (k : Card) (r : MadeBy k) (now : Moment) (change : Change)
    → card (core_of k) ≡ k → card (core_of (turn k (call_of now change)).card) ≡ (turn k (call_of now change)).card
unfolding turn
shown-after k r now change s = go (refusal k now.0 (asked change)) refl
  where
    go : (o : Option Row) → refusal k now.0 (asked change) ≡ o
        → card (core_of (answered k (call_of now change) o).card) ≡ (answered k (call_of now change) o).card
    go none e = shown-again now.0 (after_change k (call_of now change)) (meets k r now change e).not-above
        (next-between k r now change e) (remembered_then k (call_of now change)) _ _ (next-few k r now change e)
    go (some x) e = s

pub made-shown : (l : List Asking) → card (core_of (made l)) ≡ made l
unfolding turned
made-shown [] = empty-shown
made-shown (a ∷ l) = shown-after (made l) (made-by l) a.now a.change (made-shown l)

-- the core that is written is one
pub core-written : (d : Inside) (k : Card) (l : List Asking) → k ≡ made l → d ≡ core_of k → (card d ≡ k) × IsCore d
core-written d k l e w =
    let s : card (core_of k) ≡ k = subst (λ (x : Card). card (core_of x) ≡ x) (sym e) (made-shown l) in
    let t : card d ≡ k = ap card w ∙ s in
    (t, record { written = w ∙ ap core_of (sym t); calls = l; made_by = t ∙ e })

-- one call more on a core, which leaves its fields as the rules' card is written
pub one_more : (c : Inside) → IsCore c → (now : Moment) (change : Change) (d : Inside)
    → d ≡ core_of (turn (card c) (call_of now change)).card
    → (card d ≡ (turn (card c) (call_of now change)).card) × IsCore d
unfolding turned
one_more c v now change d w =
    core-written d (turn (card c) (call_of now change)).card (record { now = now; change = change } ∷ v.calls)
    (ap (λ (k : Card). (turn k (call_of now change)).card) v.made_by) w

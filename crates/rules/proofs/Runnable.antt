-- Who is runnable on the card is who the history says is: the wakes, blocks, admits and removes that were accepted decide.
-- Assumes nothing.
use mathlib.Core.Path.{◌≡◌, refl, ap, sym, ◌∙◌}
use mathlib.Core.Bool.{Bool, true, false, cond, not}
use mathlib.Core.List.{List, [], ◌∷◌}
use mathlib.Core.Option.{Option, none, some}
use Prim.Native.Nat.{ℕ}
use lib.Dec.{eqb}
use borrow.Author.Tests.{eq-eqb, not-true}
use Rattle.rules.specs.Lists.{keep, All}
use Rattle.rules.specs.Vcpu.{Vcpu, admitted, named}
use Rattle.rules.specs.Remember.{Remembered, kept}
use Rattle.rules.specs.Card.{Card, to_named}
use Rattle.rules.specs.Change.{Change, admit, wake, block, remove, tick, set_runnable, change}
use Rattle.rules.specs.Refuse.{Refusal, call_rows, refusal}
use Rattle.rules.specs.Turn.{Call, after_return, settled}
use Rattle.rules.specs.History.{after, heard, runnable_after, is_runnable}
use Rattle.rules.proofs.Lists.{all_both, all_map, all_among, among_all, among_keep, any_false}
use Rattle.rules.proofs.Accepted.{passed, admits}
use Rattle.rules.proofs.Advance.{stepped, each-stepped, terms-stepped, runnable-stepped, rows-stepped}
use Rattle.rules.proofs.Changed.{all_placed}
use Rattle.rules.proofs.Reached.{card-refused, card-accepted, reply-refused, reply-accepted}

-- the VCPU is runnable exactly where `f` says so of its identifier
abbrev As : (ℕ → Bool) → Vcpu → Type 0
As f v = v.runnable ≡ f v.terms.tunnel

step-runnable : (f : ℕ → Bool) (c : Card) (now : ℕ) → All (As f) c.vcpus → All (As f) (after_return c now)
step-runnable f c now a =
    rw (each-stepped c now)
    (all_map (As f) (stepped c.last now c.running)
    (λ v q. runnable-stepped c.last now c.running v ∙ q
    ∙ ap (λ x. f x.tunnel) (sym (terms-stepped c.last now c.running v)))
    c.vcpus a)

mark_runnable : (f : ℕ → Bool) (t : ℕ) (b : Bool) (vs : List Vcpu) → All (As f) vs
    → All (As (λ n. cond (eqb n t) b (f n))) (to_named t (set_runnable b) vs)
mark_runnable f t b vs a = all_map (As (λ n. cond (eqb n t) b (f n))) (λ v. cond (named t v) (set_runnable b v) v) mark vs a
  where
    mark : (v : Vcpu) → As f v → As (λ n. cond (eqb n t) b (f n)) (cond (named t v) (set_runnable b v) v)
    mark v q = go (named t v) refl
      where
        go : (x : Bool) → named t v ≡ x → As (λ n. cond (eqb n t) b (f n)) (cond x (set_runnable b v) v)
        go true e = rw e
        go false e = rw e q

change-runnable : (f : ℕ → Bool) (now : ℕ) (asked : Change) (vs : List Vcpu) (rs : List Remembered) → call_rows vs rs asked ≡ none
    → All (As f) vs
    → All (As (λ n. runnable_after asked n (f n))) (change now asked vs)
change-runnable f now (admit d) vs rs e a =
    all_placed (As (λ n. runnable_after (admit d) n (f n))) (admitted now d) vs (rw (eq-eqb d.tunnel d.tunnel refl))
    (all_both (λ v n q. rw n q) vs (any_false (named d.tunnel) vs (admits vs rs d e).not_there) a)
change-runnable f now (wake t) vs rs e a = mark_runnable f t true vs a
change-runnable f now (block t) vs rs e a = mark_runnable f t false vs a
change-runnable f now (remove t) vs rs e a =
    among_all (As (λ n. runnable_after (remove t) n (f n))) (keep (λ v. not (named t v)) vs)
    (λ v m. let p = among_keep (λ v. not (named t v)) vs v m in rw (not-true (named t v) p.1) (all_among (As f) vs a v p.0))
change-runnable f now tick vs rs e a = a

pub runnable-told : (calls : List Call) → All (λ v. v.runnable ≡ is_runnable (heard calls) v.terms.tunnel) (after calls).vcpus
unfolding settled
runnable-told [] = tt
runnable-told (call ∷ calls) = go (refusal (after calls) call.now call.asked) refl (runnable-told calls)
  where
    go : (o : Option Refusal) → refusal (after calls) call.now call.asked ≡ o
        → All (As (is_runnable (heard calls))) (after calls).vcpus
        → All (As (is_runnable (heard (call ∷ calls)))) (after (call ∷ calls)).vcpus
    go (some r) e ih = rw (reply-refused (after calls) call r e, card-refused (after calls) call r e) ih
    go none e ih =
        rw (reply-accepted (after calls) call e, card-accepted (after calls) call e)
        (change-runnable (is_runnable (heard calls)) call.now call.asked (after_return (after calls) call.now) _
        (rows-stepped (after calls) call.now (kept call.now (after calls).remembered) call.asked
        ∙ (passed (after calls) call.now call.asked e).asked_for)
        (step-runnable (is_runnable (heard calls)) (after calls) call.now ih))

-- "Never had to fold", read off the history, is exactly what the queue on the card did: of every sporadic stay, after any calls.
-- Assumes nothing.
use mathlib.Core.Path.{◌≡◌, refl, ap, sym, ◌∙◌}
use mathlib.Core.Bool.{Bool, true, false, ◌&&◌, ◌||◌}
use mathlib.Core.List.{List, [], ◌∷◌}
use mathlib.Core.Option.{Option, none, some}
use Prim.Native.Nat.{ℕ, ◌+◌, ◌-◌, ◌≤◌}
use native.Mathlib.Omega.{arith}
use lib.Dec.{ltb}
use lib.ListN.{length}
use borrow.Author.Tests.{ltb-true, le-ltb}
use Rattle.rules.specs.Lists.{any, All, Among}
use Rattle.rules.specs.Vcpu.{named}
use Rattle.rules.specs.Card.{Card}
use Rattle.rules.specs.Change.{Change, admit, wake, block, remove, tick}
use Rattle.rules.specs.Refuse.{Refusal, refusal}
use Rattle.rules.specs.Turn.{Call, settled}
use Rattle.rules.specs.Meaning.{Sporadic}
use Rattle.rules.specs.History.{after, heard, time, past, ticks}
use Rattle.rules.specs.Stays.{Stay, change_stays, stays, with_end, owns}
use Rattle.rules.specs.Slices.{slices, ever_folds}
use Rattle.rules.specs.Demand3.{slices_of, has_to_fold, folds_at, folded}
use Rattle.rules.proofs.Tests.{or-none}
use Rattle.rules.proofs.Lists.{all_imp, all_map, all_among, among_all, length-ticks}
use Rattle.rules.proofs.Slices.{slices-idle}
use Rattle.rules.proofs.Held.{held_new, held-end, owns_none, owns-end}
use Rattle.rules.proofs.Accepted.{Passed, passed}
use Rattle.rules.proofs.Advance.{says, folded-step}
use Rattle.rules.proofs.Reached.{card-refused, card-accepted, reply-refused, reply-accepted}
use Rattle.rules.proofs.Reached.{reached, pace, there, told-by-card}

last-accepted : (call : Call) (calls : List Call) → refusal (after calls) call.now call.asked ≡ none
    → (after (call ∷ calls)).last ≡ call.now
unfolding settled
last-accepted call calls e = rw (card-accepted (after calls) call e)

never_back : (call : Call) (calls : List Call) → (after calls).last ≤ (after (call ∷ calls)).last
never_back call calls = go (refusal (after calls) call.now call.asked) refl
  where
    go : (o : Option Refusal) → refusal (after calls) call.now call.asked ≡ o → (after calls).last ≤ (after (call ∷ calls)).last
    go (some r) e = rw (card-refused (after calls) call r e) (omega arith)
    go none e = omega (arith, last-accepted call calls e, (passed (after calls) call.now call.asked e).not-before)

-- a charge of no ticks
none-folds : (c : Card) (s : Stay) → folds_at c c.last s ≡ false
none-folds c s = rw (le-ltb c.last c.last (omega arith))

-- before its admission nothing folds in a stay

folds-later : (c : Card) (n : ℕ) (s : Stay) → n ≤ s.from → folds_at c n s ≡ false
folds-later c n s h = go (ltb c.last n) refl
  where
    go : (b : Bool) → ltb c.last n ≡ b
        → b && owns s c.running c.last && any (λ v. named s.terms.tunnel v && has_to_fold c.last v) c.vcpus ≡ false
    go true e = rw (owns_none s c.running c.last (omega (arith, ltb-true c.last n e)))
    go false e = refl

folded-new : (calls : List Call) (s : Stay) → (after calls).last ≤ s.from → folded calls s ≡ false
folded-new [] s h = refl
folded-new (call ∷ calls) s h =
    rw (folded-new calls s (omega (arith, never_back call calls)), folds-later (after calls) (after (call ∷ calls)).last s h)

-- an end to come changes nothing of what folded

folds-end : (c : Card) (n now t : ℕ) (s : Stay) → n ≤ now → folds_at c n (with_end now t s) ≡ folds_at c n s
folds-end c n now t s h = go (ltb c.last n) refl
  where
    go : (b : Bool) → ltb c.last n ≡ b
        → b && owns (with_end now t s) c.running c.last && any (λ v. named s.terms.tunnel v && has_to_fold c.last v) c.vcpus
        ≡ b && owns s c.running c.last && any (λ v. named s.terms.tunnel v && has_to_fold c.last v) c.vcpus
    go true e = rw (owns-end now t s c.running c.last (omega (arith, ltb-true c.last n e)))
    go false e = refl

folded-end : (calls : List Call) (now t : ℕ) (s : Stay) → (after calls).last ≤ now → folded calls (with_end now t s) ≡ folded calls s
folded-end [] now t s h = refl
folded-end (call ∷ calls) now t s h =
    rw (folded-end calls now t s (omega (arith, never_back call calls)), folds-end (after calls) (after (call ∷ calls)).last now t s h)

-- of a sporadic stay the history says what the queue did
abbrev Exactly : List Call → List (Option ℕ) → Stay → Type 0
Exactly calls h s = Sporadic s.terms → says s h ≡ folded calls s

-- the call's change begins a stay or ends one
changed-exactly : (calls : List Call) (now : ℕ) (h : List (Option ℕ)) → (after calls).last ≡ now → length h ≡ now
    → (asked : Change) (ss : List Stay)
    → All (Exactly calls h) ss → All (Exactly calls h) (change_stays now asked ss)
changed-exactly calls now h e n (admit d) ss a = (λ i. new (record { terms = d; from = now; until = none }) (omega arith), a)
  where
    new : (s : Stay) → now ≤ s.from → says s h ≡ folded calls s
    new s k =
        ap (λ (b : List Bool). ever_folds s.terms.period (slices s.terms.period b)) (held_new s h (omega arith))
        ∙ ap (ever_folds s.terms.period) (slices-idle s.terms.period (length h) [])
        ∙ sym (folded-new calls s (omega arith))
changed-exactly calls now h e n (wake t) ss a = a
changed-exactly calls now h e n (block t) ss a = a
changed-exactly calls now h e n (remove t) ss a =
    all_map (Exactly calls h) (with_end now t)
    (λ s q i. ap (λ (b : List Bool). ever_folds s.terms.period (slices s.terms.period b)) (held-end now t s h (omega arith))
    ∙ q i ∙ sym (folded-end calls now t s (omega arith))) ss a
changed-exactly calls now h e n tick ss a = a

-- an accepted call: what its charge does, then what its change does
module _ (call : Call) (calls : List Call) (e : refusal (after calls) call.now call.asked ≡ none) where
  abbrev c : Card
  c = after calls

  abbrev ss : List Stay
  ss = stays (heard calls)

  abbrev h : List (Option ℕ)
  h = past (heard calls)

  abbrev d : ℕ
  d = call.now - c.last

  p : Passed c call.now call.asked
  p = passed c call.now call.asked e

  charged-exactly : (s : Stay) → Among s ss → Exactly calls h s → Exactly (call ∷ calls) (ticks d c.running h) s
  charged-exactly s m q i =
      let r = reached calls in
      let n : c.last + d ≡ (after (call ∷ calls)).last = omega (arith, last-accepted call calls e, p.not-before) in
      folded-step c d ss h r.lawful (pace c ss h r call p) (there c ss h r) s m i
      ∙ ap (λ (b : Bool). b || folds_at c (c.last + d) s) (q i)
      ∙ ap (λ (k : ℕ). folded calls s || folds_at c k s) n

  accepted-exactly : All (Exactly calls h) ss
      → All (Exactly (call ∷ calls) (ticks d c.running h)) (change_stays call.now call.asked ss)
  accepted-exactly a =
      changed-exactly (call ∷ calls) call.now (ticks d c.running h) (last-accepted call calls e)
      (omega (arith, length-ticks d c.running h, (reached calls).lawful.long, p.not-before)) call.asked ss
      (among_all _ ss (λ s m. charged-exactly s m (all_among (Exactly calls h) ss a s m)))

pub folds-exactly : (calls : List Call)
    → All (λ s. Sporadic s.terms → ever_folds s.terms.period (slices_of (heard calls) s) ≡ folded calls s) (stays (heard calls))
unfolding settled
folds-exactly [] = tt
folds-exactly (call ∷ calls) = go (refusal (after calls) call.now call.asked) refl (folds-exactly calls)
  where
    go : (o : Option Refusal) → refusal (after calls) call.now call.asked ≡ o
        → All (Exactly calls (past (heard calls))) (stays (heard calls))
        → All (λ s. Sporadic s.terms → says s (past (heard (call ∷ calls))) ≡ folded (call ∷ calls) s) (stays (heard (call ∷ calls)))
    go (some r) e ih =
        let z : time (heard calls) - time (heard calls) ≡ 0 = omega arith in
        rw (reply-refused (after calls) call r e, card-refused (after calls) call r e, z)
        (all_imp (λ s q i. q i ∙ sym (or-none (folded calls s))
        ∙ ap (λ (b : Bool). folded calls s || b) (sym (none-folds (after calls) s)))
        (stays (heard calls)) ih)
    go none e ih =
        rw (reply-accepted (after calls) call e, (told-by-card calls).0, (told-by-card calls).1) (accepted-exactly call calls e ih)

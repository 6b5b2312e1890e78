-- Demand 3, proved over any sequence of calls from the empty card.
-- Assumes nothing.
use mathlib.Core.Path.{◌≡◌, refl, ap, sym, ◌∙◌, subst}
use mathlib.Core.Bool.{true, false}
use mathlib.Core.List.{List}
use mathlib.Core.Option.{Option, none, some}
use Prim.Native.Nat.{ℕ, suc, ◌+◌, ◌≤◌}
use native.Mathlib.Omega.{arith}
use borrow.Author.Tests.{eqb-true}
use lib.Dec.{eqb}
use Rattle.rules.specs.Lists.{count, All, Among}
use Rattle.rules.specs.Vcpu.{Vcpu, named}
use Rattle.rules.specs.Card.{Card}
use Rattle.rules.specs.Turn.{Call}
use Rattle.rules.specs.Meaning.{Sporadic, Deferrable, Polling}
use Rattle.rules.specs.History.{Exchange, after, heard, time, past}
use Rattle.rules.specs.Stays.{Stay, lasts, lasts_as, stays, held}
use Rattle.rules.specs.Slices.{slices, recent, returns_of, ever_folds}
use Rattle.rules.specs.Demand3.{Refills, AtMostCapacity, AtMostOnce, AtMostTwice, recent_of}
use Rattle.rules.specs.Demand3.{UsableBudget, PendingSlices, Unused, Polled, NextBoundary, OfItsVcpu, ItsStay, Demand3}
use Rattle.rules.proofs.Tests.{clash, and-true}
use Rattle.rules.proofs.Named.{named_itself}
use Rattle.rules.proofs.Lists.{all_imp, all_both, all_among, among_all, some_one, count_among}
use Rattle.rules.proofs.Queue.{total}
use Rattle.rules.proofs.Returns.{still-all, total_returns}
use Rattle.rules.proofs.Sound.{Sound}
use Rattle.rules.proofs.Held.{each_tick_held}
use Rattle.rules.proofs.Lawful.{Pair, Lawful}
use Rattle.rules.proofs.Reached.{reached, told-by-card}
use Rattle.rules.proofs.Folded.{folds-exactly}
use Rattle.rules.proofs.Runnable.{runnable-told}
use Rattle.rules.proofs.Refills.{at-most-once, at-most-twice, next-boundary, unused, polled}
use Rattle.rules.proofs.Together.{together-sporadic, together-refills}
use Rattle.rules.proofs.ComesBack.{no_sooner, remembered}

module _ (calls : List Call) where
  abbrev c : Card
  c = after calls

  abbrev xs : List Exchange
  xs = heard calls

  l : Lawful c.last c.vcpus (stays xs) (past xs)
  l = (reached calls).lawful

  same-time : c.last ≡ time xs
  same-time = sym (told-by-card calls).0

  its_kind : (s : Stay) (v : Vcpu) → Pair c.last s v (past xs) → Sporadic s.terms → v.terms.kind ≡ 0
  its_kind s v p i = ap (λ d. d.kind) p.same-terms ∙ i

  one_for_one : (s : Stay) (v : Vcpu) → Sound c.last v → Pair c.last s v (past xs) → Sporadic s.terms → PendingSlices xs s v
  one_for_one s v k p i =
      subst (λ d. Says d.period (time xs)) p.same-terms
      (subst (λ (n : ℕ). Says v.terms.period n) same-time
      (λ f. sym (still-all c.last (suc c.last) (c.last + v.terms.period) v.pending k.order (omega arith))
      ∙ (p.tied (its_kind s v p i)).one_for_one f))
    where
      Says : ℕ → ℕ → Type 0
      Says T now = ever_folds T (slices T (held s (past xs))) ≡ false
          → v.pending ≡ returns_of T (recent T now (slices T (held s (past xs))))

  budget : (s : Stay) (v : Vcpu) → Sound c.last v → Pair c.last s v (past xs) → Sporadic s.terms → UsableBudget xs s v
  budget s v k p i f =
      omega (
        arith,
        (k.sporadic (its_kind s v p i)).1,
        ap total (one_for_one s v k p i f),
        total_returns s.terms.period (recent_of xs s),
        ap (λ d. d.capacity) p.same-terms,
      )

  -- of each stay that lasts
  of_each : (P : Stay → Vcpu → Type 0) → ((s : Stay) (v : Vcpu) → Sound c.last v → Pair c.last s v (past xs) → P s v)
      → All (OfItsVcpu calls P) (stays xs)
  of_each P f = all_imp (λ s p u. all_both (λ v k q e. f s v k (q e)) c.vcpus l.sound (p u)) (stays xs) l.paired

  -- and so of this one
  of_its : (P : Stay → Vcpu → Type 0) → All (OfItsVcpu calls P) (stays xs) → (s : Stay) → Among s (stays xs) → lasts s.until ≡ true
      → (v : Vcpu) → Among v c.vcpus → v.terms.tunnel ≡ s.terms.tunnel → P s v
  of_its P a s n u v m =
      all_among (λ v. v.terms.tunnel ≡ s.terms.tunnel → P s v) c.vcpus (all_among (OfItsVcpu calls P) (stays xs) a s n u) v m

  -- of each VCPU
  its_stay : (v : Vcpu) → Among v c.vcpus → ItsStay xs v
  its_stay v m =
      let k : 1 ≤ count (lasts_as v.terms.tunnel) (stays xs) =
      omega (arith, l.on_the_card v.terms.tunnel, count_among (named v.terms.tunnel) c.vcpus v m (named_itself v)) in
      go (some_one (lasts_as v.terms.tunnel) (stays xs) k)
    where
      until_none : (o : Option ℕ) → lasts o ≡ true → o ≡ none
      until_none none e = refl
      until_none (some t) e = clash (sym e)

      go : (s : Stay) × Among s (stays xs) × (lasts_as v.terms.tunnel s ≡ true) → ItsStay xs v
      go (s, n, e) =
          let a = and-true (lasts s.until) (eqb s.terms.tunnel v.terms.tunnel) e in
          let k : Sound c.last v = all_among (Sound c.last) c.vcpus l.sound v m in
          let t : v.terms.tunnel ≡ s.terms.tunnel = sym (eqb-true s.terms.tunnel v.terms.tunnel a.1) in
          let p = of_its (λ s v. Pair c.last s v (past xs)) l.paired s n a.0 v m t in
          record {
            stay = s;
            one_of_them = n;
            lasting = until_none s.until a.0;
            same-terms = p.same-terms;
            held-total = p.held-total;
            at-most-capacity = all_among (λ s. Sporadic s.terms → AtMostCapacity xs s) (stays xs) l.bounded s n;
            usable-budget = budget s v k p;
            pending-slices = one_for_one s v k p;
            at-most-once = all_among (λ s. Refills s → AtMostOnce xs s) (stays xs) (at-most-once calls) s n;
            at-most-twice = all_among (λ s. Refills s → AtMostTwice xs s) (stays xs) (at-most-twice calls) s n;
            next-boundary = of_its (λ s v. Refills s → NextBoundary xs s v) (next-boundary calls) s n a.0 v m t;
            unused = of_its (λ s v. Deferrable s.terms → Unused xs s v) (unused calls) s n a.0 v m t;
            polled = of_its (λ s v. Polling s.terms → Polled xs s v) (polled calls) s n a.0 v m t;
          }

pub demand3 : (calls : List Call) → Demand3 calls
demand3 calls =
    let r = (reached calls).lawful in
    record {
      each-tick = r.long ∙ same-time calls;
      at-most-capacity = r.bounded;
      usable-budget = of_each calls (λ s v. Sporadic s.terms → UsableBudget (heard calls) s v) (budget calls);
      pending-slices = of_each calls (λ s v. Sporadic s.terms → PendingSlices (heard calls) s v) (one_for_one calls);
      folds-exactly = folds-exactly calls;
      at-most-once = at-most-once calls;
      at-most-twice = at-most-twice calls;
      next-boundary = next-boundary calls;
      unused = unused calls;
      polled = polled calls;
      together = among_all _ (stays (heard calls)) (λ s m. together-sporadic (heard calls) s (no_sooner calls) r.bounded);
      together-twice = among_all _ (stays (heard calls)) (λ s m. together-refills (heard calls) s (no_sooner calls) (at-most-once calls));
      no_sooner = no_sooner calls;
      remembered = remembered calls;
      one_owner = r.owned;
      adds-up = each_tick_held (stays (heard calls)) (past (heard calls)) r.owned ∙ r.long ∙ same-time calls;
      stays_on_card = r.on_the_card;
      same-terms = of_each calls (λ s v. v.terms ≡ s.terms) (λ s v k p. p.same-terms);
      every_vcpu = among_all (ItsStay (heard calls)) (after calls).vcpus (its_stay calls);
      same-time = same-time calls;
      same-holder = sym (told-by-card calls).1;
      runnable-told = runnable-told calls;
    }

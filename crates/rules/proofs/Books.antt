-- How an accepted call moves the totals beside the VCPUs, whatever calls came before; and that a VCPU's held total, as it stands at its
-- removal, is what its stay held. Assumes nothing.
use mathlib.Core.Path.{◌≡◌, refl, ap, sym, ◌∙◌, subst}
use mathlib.Core.Bool.{Bool, true, cond, not}
use mathlib.Core.List.{List, ◌∷◌, map}
use mathlib.Core.Logic.{inl}
use mathlib.Core.Option.{Option, none, some}
use Prim.Native.Nat.{ℕ, ◌+◌, ◌-◌}
use native.Mathlib.Omega.{arith}
use lib.Dec.{eqb}
use borrow.Author.Tests.{eqb-true, not-false}
use Rattle.rules.specs.Lists.{Among}
use Rattle.rules.specs.Vcpu.{Vcpu, named}
use Rattle.rules.specs.Remember.{kept}
use Rattle.rules.specs.Card.{Card, on_card}
use Rattle.rules.specs.Change.{Change, admit, wake, block, remove, tick}
use Rattle.rules.specs.Ledger.{idled, held_of, handed_over}
use Rattle.rules.specs.Refuse.{above24_bits, call_rows, refusal}
use Rattle.rules.specs.Turn.{Call, settled, after_return, accepted}
use Rattle.rules.specs.Rows.{NoRow}
use Rattle.rules.specs.Budgets.{Loses}
use Rattle.rules.specs.History.{after, heard, past, ticks}
use Rattle.rules.specs.Stays.{Stay, lasts, lasts_as, with_end, stays, change_stays, held, held_ticks}
use Rattle.rules.specs.Accounts.{Books, ended_at, Removal}
use Rattle.rules.proofs.Tests.{clash, and-true}
use Rattle.rules.proofs.Named.{is-named, on_card_says, find-there}
use Rattle.rules.proofs.Lists.{all_among, count_among, some_one, map_among}
use Rattle.rules.proofs.Accepted.{row-passed, Passed, passed}
use Rattle.rules.proofs.Held.{held-end}
use Rattle.rules.proofs.Lawful.{Pair, Paired, Lawful}
use Rattle.rules.proofs.Advance.{stepped, is-there, terms-stepped, rows-stepped}
use Rattle.rules.proofs.Reached.{reached, returned-lawful, told-by-card, card-accepted, reply-accepted}
use Rattle.rules.proofs.Rows.{not-given}
use Rattle.rules.proofs.Budgets.{one_loss, fits-stepped}

module _ (calls : List Call) (call : Call) (e : refusal (after calls) call.now call.asked ≡ none) where
  abbrev c : Card
  c = after calls

  abbrev vs : List Vcpu
  vs = after_return c call.now

  abbrev ss : List Stay
  ss = stays (heard calls)

  -- the ticks up to this call
  abbrev h : List (Option ℕ)
  h = ticks (call.now - c.last) c.running (past (heard calls))

  abbrev step : Vcpu → Vcpu
  step = stepped c.last call.now c.running

  p : Passed c call.now call.asked
  p = passed c call.now call.asked e

  l : Lawful call.now vs ss h
  l = returned-lawful c ss (past (heard calls)) call (reached calls) p

  its_name : (v : Vcpu) → (step v).terms.tunnel ≡ v.terms.tunnel
  its_name v = ap (λ x. x.tunnel) (terms-stepped c.last call.now c.running v)

  hands_over : (w : Vcpu) → Among w vs → call.asked ≡ remove w.terms.tunnel → handed_over call.asked vs ≡ w.held_total
  hands_over w m q =
      ap (λ (a : Change). handed_over a vs) q ∙ ap held_of (find-there w.terms.tunnel vs (l.once w.terms.tunnel) w m refl)

  none-handed : (asked : Change) → ((t : ℕ) → asked ≡ remove t → ⊥) → handed_over asked vs ≡ 0
  none-handed (admit d) n = refl
  none-handed (wake t) n = refl
  none-handed (block t) n = refl
  none-handed (remove t) n = absurd (n t refl)
  none-handed tick n = refl

  -- an accepted call's books
  kept-books : Books c call (accepted c call)
  unfolding settled
  kept-books =
      record {
        idle-grows = λ q. ap (λ (o : Option ℕ). idled c.last call.now o c.idle) q;
        idle-stays = λ t q. ap (λ (o : Option ℕ). idled c.last call.now o c.idle) q;
        removed-grows = grows;
        removed-stays = λ n. omega (arith, none-handed call.asked n);
      }
    where
      grows : (v : Vcpu) (ticks : ℕ) → Among v c.vcpus → call.asked ≡ remove v.terms.tunnel → Loses c call.now v ticks
          → c.removed + handed_over call.asked vs ≡ c.removed + (v.held_total + ticks)
      grows v d m q k =
          let i = is-there c call.now v m in
          let b = fits-stepped calls call e v m (step v) (inl refl) in
          omega (
            arith,
            hands_over (step v) i (q ∙ ap remove (sym (its_name v))),
            b.held-total,
            one_loss c call.now v b.ticks d b.loses k,
          )

  -- the VCPU that a remove names is there, and so is its stay
  removes : (t : ℕ) → call.asked ≡ remove t → Removal calls call t
  unfolding settled
  removes t q = go (on_card_says vs t there)
    where
      rows : call_rows vs (kept call.now c.remembered) (remove t) ≡ none
      rows =
          ap (call_rows vs (kept call.now c.remembered)) (sym q)
          ∙ rows-stepped c call.now (kept call.now c.remembered) call.asked ∙ p.asked_for

      there : on_card t vs ≡ true
      there = not-false (on_card t vs) (row-passed (not (on_card t vs)) 7 0 none (row-passed (above24_bits t) 4 0 _ rows).1).0

      goes_on_lem : past (heard (call ∷ calls)) ≡ h
      goes_on_lem = rw (reply-accepted c call e, (told-by-card calls).0, (told-by-card calls).1)

      stays_then : stays (heard (call ∷ calls)) ≡ map (with_end call.now t) ss
      stays_then = rw (reply-accepted c call e) (ap (λ (a : Change). change_stays call.now a ss) q)

      until_none : (o : Option ℕ) → lasts o ≡ true → o ≡ none
      until_none none f = refl
      until_none (some u) f = clash (sym f)

      go : (w : Vcpu) × Among w vs × (w.terms.tunnel ≡ t) → Removal calls call t
      go (w, m, n) = by (some_one (lasts_as t) ss (omega (arith, l.on_the_card t, count_among (named t) vs w m (is-named t w n))))
        where
          by : (s : Stay) × Among s ss × (lasts_as t s ≡ true) → Removal calls call t
          by (s, i, f) =
              let a = and-true (lasts s.until) (eqb s.terms.tunnel t) f in
              let same : with_end call.now t s ≡ ended_at call.now s =
              ap (λ (b : Bool). record { terms = s.terms; from = s.from; until = cond b (some call.now) s.until }) f in
              let k = all_among (λ v. v.terms.tunnel ≡ s.terms.tunnel → Pair call.now s v h) vs
              (all_among (Paired call.now vs h) ss l.paired s i a.0) w m (n ∙ sym (eqb-true s.terms.tunnel t a.1)) in
              record {
                then = w;
                is-there = m;
                so_named = n;
                stay = s;
                lasted = i;
                lasting = until_none s.until a.0;
                ended = subst (λ (x : List Stay). Among (ended_at call.now s) x) (sym stays_then)
                    (subst (λ (x : Stay). Among x (map (with_end call.now t) ss)) same (map_among (with_end call.now t) ss s i));
                same-terms = k.same-terms;
                its_ticks = k.held-total ∙ ap held_ticks (sym (held-end call.now t s h (omega (arith, l.long))))
                    ∙ ap (λ (x : Stay). held_ticks (held x h)) same
                    ∙ ap (λ (x : List (Option ℕ)). held_ticks (held (ended_at call.now s) x)) (sym goes_on_lem);
                handed-over = ap (λ (x : Card). x.removed) (card-accepted c call e)
                    ∙ ap (λ (x : ℕ). c.removed + x) (hands_over w m (q ∙ ap remove (sym n)));
              }

pub books : (calls : List Call) (call : Call) → NoRow (after calls) call → Books (after calls) call (after (call ∷ calls))
books calls call n =
    let e = not-given (after calls) call n in
    subst (λ (d : Card). Books (after calls) call d) (sym (card-accepted (after calls) call e)) (kept-books calls call e)

pub removal : (calls : List Call) (call : Call) (t : ℕ) → NoRow (after calls) call → call.asked ≡ remove t → Removal calls call t
removal calls call t n q = removes calls call (not-given (after calls) call n) t q

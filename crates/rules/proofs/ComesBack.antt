-- A tenant comes back no sooner than the time that it left behind, after any calls: what an ended stay owes is remembered until it has
-- come, who is remembered owes just that, and row 9 keeps an identifier away till then. Assumes nothing.
use mathlib.Core.Path.{◌≡◌, refl, ap, sym, ◌∙◌, subst}
use mathlib.Core.Bool.{Bool, true, false, cond, ◌&&◌}
use mathlib.Core.List.{List, [], ◌∷◌, ◌++◌, map}
use mathlib.Core.Logic.{◌⊎◌, inl, inr, ◌↔◌, ⊎_elim}
use mathlib.Core.Option.{Option, none, some}
use Prim.Native.Nat.{ℕ, ◌-◌, ◌≤◌, ◌<◌}
use native.Mathlib.Omega.{arith}
use lib.Dec.{leb, eqb}
use lib.ListN.{length}
use borrow.Author.Tests.{leb-true, leb-false, eqb-true, eq-eqb}
use Rattle.rules.specs.Lists.{All, Among}
use Rattle.rules.specs.Vcpu.{Description, Vcpu, named}
use Rattle.rules.specs.Remember.{Remembered, leaves_until, remembering, left_by, is_kept, kept, remembers}
use Rattle.rules.specs.Card.{Card, find}
use Rattle.rules.specs.Change.{Change, admit, wake, block, remove, tick, leaving}
use Rattle.rules.specs.Refuse.{Refusal, call_rows, refusal}
use Rattle.rules.specs.Turn.{Call, after_return, settled, remembered_then}
use Rattle.rules.specs.Meaning.{RememberedWith}
use Rattle.rules.specs.History.{after, heard, time, past, ticks}
use Rattle.rules.specs.Stays.{Stay, lasts, lasts_as, with_end, stays, change_stays}
use Rattle.rules.specs.Together.{owes_until}
use Rattle.rules.specs.Demand3.{NoSooner, StillOwes}
use Rattle.rules.proofs.Tests.{no-some, cases, and-true}
use Rattle.rules.proofs.Named.{named-says, found, find-there, is-kept}
use Rattle.rules.proofs.Lists.{all_imp, all_map, all_map_among, all_append, all_keep, all_among, among_all}
use Rattle.rules.proofs.Lists.{map_among, append_among, some_one, count_among}
use Rattle.rules.proofs.Sound.{Sound}
use Rattle.rules.proofs.Accepted.{passed, Passed, Admits, admits}
use Rattle.rules.proofs.Held.{Dated}
use Rattle.rules.proofs.Lawful.{Pair, Paired, Lawful}
use Rattle.rules.proofs.Memory.{none_of}
use Rattle.rules.proofs.Together.{Gone}
use Rattle.rules.proofs.Owes.{LeavesIt, leaves_it, owes-later, owes-end}
use Rattle.rules.proofs.Advance.{rows-stepped}
use Rattle.rules.proofs.Changed.{no-stay-so-named}
use Rattle.rules.proofs.Reached.{card-refused, card-accepted, reply-refused, reply-accepted}
use Rattle.rules.proofs.Reached.{Reached, reached, returned-lawful, told-by-card}
use Rattle.rules.proofs.Refills.{returned-boundary}

-- a stay of the identifier has ended, and owes that time
record Debt (ss : List Stay) (h : List (Option ℕ)) (tunnel t : ℕ) : Type 0 where
  stay : Stay
  one_of_them : Among stay ss
  so_named : stay.terms.tunnel ≡ tunnel
  end : ℕ
  ended : stay.until ≡ some end
  owes : owes_until h stay end ≡ some t

-- .. and does so still, where that stay is one of these too
debt : (ss ss' : List Stay) (h h' : List (Option ℕ)) (tunnel t : ℕ)
    → ((s : Stay) → Among s ss → (end : ℕ) → s.until ≡ some end → Among s ss' × (owes_until h' s end ≡ owes_until h s end))
    → Debt ss h tunnel t → Debt ss' h' tunnel t
debt ss ss' h h' tunnel t f q =
    let p = f q.stay q.one_of_them q.end q.ended in
    record {
      stay = q.stay;
      one_of_them = p.0;
      so_named = q.so_named;
      end = q.end;
      ended = q.ended;
      owes = p.1 ∙ q.owes;
    }

-- what it owes is remembered, if it has ended and that is to come
abbrev Remembering : ℕ → List Remembered → List (Option ℕ) → Stay → Type 0
Remembering now rs h s =
    (end t : ℕ) → s.until ≡ some end → owes_until h s end ≡ some t → now < t → RememberedWith rs s.terms.tunnel t

record Owed (now : ℕ) (rs : List Remembered) (ss : List Stay) (h : List (Option ℕ)) : Type 0 where
  is-remembered : All (Remembering now rs h) ss
  is-owed : All (λ r. Debt ss h r.tunnel r.time) rs
  no_sooner : NoSooner h ss

-- the ticks of later calls, and those whose time has come
owed-later : (last now d : ℕ) (o : Option ℕ) (rs : List Remembered) (ss : List Stay) (h : List (Option ℕ)) → length h ≡ last
    → All (Dated last) ss → last ≤ now → Owed last rs ss h → Owed now (kept now rs) ss (ticks d o h)
owed-later last now d o rs ss h long g k w =
    record {
      is-remembered = among_all _ ss (λ s m end t e f l.
          is-kept now s.terms.tunnel t rs
          (all_among _ ss w.is-remembered s m end t e (sym (same s m end e) ∙ f) (omega arith)) l);
      is-owed = all_keep _ (is_kept now) rs
          (all_imp (λ r q. debt ss ss h (ticks d o h) r.tunnel r.time (λ s m end e. (m, same s m end e)) q) rs w.is-owed);
      no_sooner = turns ss (λ s m. m) w.no_sooner;
    }
  where
    same : (s : Stay) → Among s ss → (end : ℕ) → s.until ≡ some end → owes_until (ticks d o h) s end ≡ owes_until h s end
    same s m end e = owes-later s o last d end h (all_among (Dated last) ss g s m) (omega arith) e

    turns : (l : List Stay) → ((s : Stay) → Among s l → Among s ss) → NoSooner h l → NoSooner (ticks d o h) l
    turns [] i b = tt
    turns (s ∷ l) i b = (
      among_all _ l (λ r m n. let p = all_among _ l b.0 r m n in
          (p.0, p.1, p.2, λ t f. p.3 t (sym (same r (i r (inr m)) p.0 p.1) ∙ f))),
      turns l (λ r m. i r (inr m)) b.1,
    )

-- step 3, at `now`: `vs` are the VCPUs after steps 1 and 2
module _ (now : ℕ) (vs : List Vcpu) (rs : List Remembered) (ss : List Stay) (h : List (Option ℕ)) (l : Lawful now vs ss h)
    (w : Owed now rs ss h)
    (left : (s : Stay) → Among s ss → lasts s.until ≡ true → (v : Vcpu) → Among v vs → v.terms.tunnel ≡ s.terms.tunnel
    → LeavesIt now h s v) where
  more : (new : List Remembered) (tunnel t : ℕ) → RememberedWith rs tunnel t ⊎ RememberedWith new tunnel t
      → RememberedWith (rs ++ new) tunnel t
  more new tunnel t (inl p) = (p.0, append_among rs new p.0 (inl p.1), p.2, p.3)
  more new tunnel t (inr p) = (p.0, append_among rs new p.0 (inr p.1), p.2, p.3)

  still-owed : Owed now (rs ++ []) ss h
  still-owed =
      record {
        is-remembered = all_imp (λ s f end t e q k. more [] s.terms.tunnel t (inl (f end t e q k))) ss w.is-remembered;
        is-owed = all_append _ rs [] w.is-owed tt;
        no_sooner = w.no_sooner;
      }

  -- a stay that begins: those of its identifier before it have ended, and row 9 saw none of them remembered
  begun : (d : Description) → Admits vs rs d → Owed now (rs ++ []) (record { terms = d; from = now; until = none } ∷ ss) h
  begun d a =
      record {
        is-remembered = (λ end t e. no-some e, still-owed.is-remembered);
        is-owed = all_imp (λ r q. debt ss _ h h r.tunnel r.time (λ s m end e. (inr m, refl)) q) (rs ++ []) still-owed.is-owed;
        no_sooner = (among_all _ ss gone, w.no_sooner);
      }
    where
      gone : (s : Stay) → Among s ss → s.terms.tunnel ≡ d.tunnel → Gone h now s
      gone s m n = go s.until refl
        where
          come : (end t : ℕ) → s.until ≡ some end → owes_until h s end ≡ some t → t ≤ now
          come end t e f = ⊎_elim (λ k. leb-true t now k) (λ k. absurd (away (leb-false t now k))) (cases (leb t now))
            where
              away : now < t → ⊥
              away k =
                  let p = all_among _ ss w.is-remembered s m end t e f k in
                  omega (
                    arith,
                    none_of d.tunnel rs a.not-remembered,
                    count_among (remembers d.tunnel) rs p.0 p.1 (eq-eqb p.0.tunnel d.tunnel (p.2 ∙ n)),
                  )

          go : (u : Option ℕ) → s.until ≡ u → Gone h now s
          go none e = absurd (no-stay-so-named now vs ss h l rs d a s m (ap lasts e) n)
          go (some end) e = (end, e, (all_among (Dated now) ss l.dated s m).over end e, λ t f. come end t e f)

  -- a stay that ends
  module _ (t : ℕ) where
    abbrev end-it : Stay → Stay
    end-it = with_end now t

    -- one that has ended before is as it was
    as_before : (s : Stay) → lasts_as t s ≡ false → end-it s ≡ s
    as_before s f = rw f

    over : (s : Stay) (end : ℕ) → s.until ≡ some end → lasts_as t s ≡ false
    over s end e = ap (λ (u : Option ℕ). lasts u && eqb s.terms.tunnel t) e

    ends_now : (s : Stay) → lasts_as t s ≡ true → (end-it s).until ≡ some now
    ends_now s e = ap (λ (b : Bool). cond b (some now) s.until) e

    -- the stay that ends, and the VCPU that leaves
    record Leaver (s : Stay) (v : Vcpu) : Type 0 where
      its_stay : Among s ss
      lasting : lasts_as t s ≡ true
      same_name : v.terms.tunnel ≡ s.terms.tunnel
      leaves : LeavesIt now h s v

    leaver : (s : Stay) (v : Vcpu) → Among s ss → lasts_as t s ≡ true → Among v vs → v.terms.tunnel ≡ t → Leaver s v
    leaver s v m e i n =
        let a = and-true (lasts s.until) (eqb s.terms.tunnel t) e in
        let same : v.terms.tunnel ≡ s.terms.tunnel = n ∙ sym (eqb-true s.terms.tunnel t a.1) in
        record { its_stay = m; lasting = e; same_name = same; leaves = left s m a.0 v i same }

    its_vcpu : (s : Stay) → Among s ss → lasts_as t s ≡ true → (v : Vcpu) × Leaver s v × (find t vs ≡ some v)
    its_vcpu s m e =
        let p = some_one (named t) vs (omega (arith, l.on_the_card t, count_among (lasts_as t) ss s m e)) in
        let n : p.0.terms.tunnel ≡ t = named-says t p.0 p.2 in
        (p.0, leaver s p.0 m e p.1 n, find-there t vs (l.once t) p.0 p.1 n)

    its_stay : (v : Vcpu) → find t vs ≡ some v → (s : Stay) × Leaver s v
    its_stay v e =
        let f = found t vs v e in
        let p = some_one (lasts_as t) ss (omega (arith, l.on_the_card t, count_among (named t) vs v f.0 f.1)) in
        (p.0, leaver p.0 v p.1 p.2 f.0 (named-says t v f.1))

    remembers-it : (v : Vcpu) (time : ℕ) → find t vs ≡ some v → leaves_until v ≡ some time
        → RememberedWith (left_by (find t vs)) v.terms.tunnel time
    remembers-it v time e f =
        subst (λ (o : Option Vcpu). RememberedWith (left_by o) v.terms.tunnel time) (sym e)
        (subst (λ (o : Option ℕ). RememberedWith (remembering v.terms.tunnel o) v.terms.tunnel time) (sym f)
        (record { tunnel = v.terms.tunnel; time = time }, inl refl, refl, refl))

    ended : Owed now (rs ++ left_by (find t vs)) (map end-it ss) h
    ended =
        record {
          is-remembered = all_map_among (Remembering now rs h) After end-it ss
              (λ s m f. ⊎_elim (this s m) (that s f) (cases (lasts_as t s))) w.is-remembered;
          is-owed = all_append _ rs (left_by (find t vs))
              (all_imp (λ r q. debt ss (map end-it ss) h h r.tunnel r.time (λ s m end e. (ended-before s m end e, refl)) q) rs
              w.is-owed)
              (owes-now (find t vs) refl);
          no_sooner = turns ss w.no_sooner;
        }
      where
        After : Stay → Type 0
        After = Remembering now (rs ++ left_by (find t vs)) h

        this : (s : Stay) → Among s ss → lasts_as t s ≡ true → After (end-it s)
        this s m e end u f q k =
            let v = its_vcpu s m e in
            let at-now : some now ≡ some end = sym (ends_now s e) ∙ f in
            let same : end ≡ now = cc in
            let o : owes_until h s now ≡ some u = sym (owes-end now t s h (omega (arith, l.long)))
            ∙ subst (λ (x : ℕ). owes_until h (end-it s) x ≡ some u) same q in
            more (left_by (find t vs)) s.terms.tunnel u
            (inr (subst (λ (x : ℕ). RememberedWith (left_by (find t vs)) x u) v.1.same_name
            (remembers-it v.0 u v.2 ((v.1.leaves u).1 (o, k)))))

        that : (s : Stay) → Remembering now rs h s → lasts_as t s ≡ false → After (end-it s)
        that s f e =
            subst After (sym (as_before s e))
            (λ end u g q k. more (left_by (find t vs)) s.terms.tunnel u (inl (f end u g q k)))

        ended-before : (s : Stay) → Among s ss → (end : ℕ) → s.until ≡ some end → Among s (map end-it ss)
        ended-before s m end e =
            subst (λ (r : Stay). Among r (map end-it ss)) (as_before s (over s end e)) (map_among end-it ss s m)

        owes-now : (o : Option Vcpu) → find t vs ≡ o → All (λ r. Debt (map end-it ss) h r.tunnel r.time) (left_by o)
        owes-now none e = tt
        owes-now (some v) e = go (leaves_until v) refl
          where
            go : (o : Option ℕ) → leaves_until v ≡ o
                → All (λ r. Debt (map end-it ss) h r.tunnel r.time) (remembering v.terms.tunnel o)
            go none f = tt
            go (some time) f =
                let p = its_stay v e in
                let s : Stay = p.0 in (
                  record {
                    stay = end-it s;
                    one_of_them = map_among end-it ss s p.1.its_stay;
                    so_named = sym p.1.same_name;
                    end = now;
                    ended = ends_now s p.1.lasting;
                    owes = owes-end now t s h (omega (arith, l.long)) ∙ ((p.1.leaves time).0 f).0;
                  },
                  tt,
                )

        turns : (l : List Stay) → NoSooner h l → NoSooner h (map end-it l)
        turns [] b = tt
        turns (s ∷ l) b = (
          all_map (λ r. r.terms.tunnel ≡ s.terms.tunnel → Gone h s.from r) end-it
              (λ r f n. let g = f n in subst (Gone h s.from) (sym (as_before r (over r g.0 g.1))) g) l b.0,
          turns l b.1,
        )

  owed-changed : (asked : Change) → call_rows vs rs asked ≡ none → Owed now (rs ++ leaving asked vs) (change_stays now asked ss) h
  owed-changed (admit d) e = begun d (admits vs rs d e)
  owed-changed (wake t) e = still-owed
  owed-changed (block t) e = still-owed
  owed-changed (remove t) e = ended t
  owed-changed tick e = still-owed

-- an accepted call
accepted-owed : (call : Call) (calls : List Call) → refusal (after calls) call.now call.asked ≡ none
    → Owed (after calls).last (after calls).remembered (stays (heard calls)) (past (heard calls))
    → Owed call.now (remembered_then (after calls) call) (change_stays call.now call.asked (stays (heard calls)))
    (ticks (call.now - (after calls).last) (after calls).running (past (heard calls)))
accepted-owed call calls e w =
    owed-changed call.now (after_return c call.now) (kept call.now c.remembered) ss h l
    (owed-later c.last call.now (call.now - c.last) c.running c.remembered ss (past (heard calls))
    r.lawful.long r.lawful.dated p.not-before w)
    left call.asked (rows-stepped c call.now (kept call.now c.remembered) call.asked ∙ p.asked_for)
  where
    c : Card
    c = after calls

    ss : List Stay
    ss = stays (heard calls)

    h : List (Option ℕ)
    h = ticks (call.now - (after calls).last) (after calls).running (past (heard calls))

    r : Reached c ss (past (heard calls))
    r = reached calls

    p : Passed c call.now call.asked
    p = passed c call.now call.asked e

    l : Lawful call.now (after_return c call.now) ss h
    l = returned-lawful c ss (past (heard calls)) call r p

    left : (s : Stay) → Among s ss → lasts s.until ≡ true → (v : Vcpu) → Among v (after_return c call.now)
        → v.terms.tunnel ≡ s.terms.tunnel → LeavesIt call.now h s v
    left s m u v i t =
        let k : Pair call.now s v h = all_among _ (after_return c call.now)
        (all_among (Paired call.now (after_return c call.now) h) ss l.paired s m u) v i t in
        leaves_it call.now h s v (all_among (Sound call.now) (after_return c call.now) l.sound v i) k
        (λ n. returned-boundary call calls e s m u v i t (λ z. n (ap (λ d. d.kind) k.same-terms ∙ z)))

owed : (calls : List Call) → Owed (after calls).last (after calls).remembered (stays (heard calls)) (past (heard calls))
unfolding settled
owed [] = record { is-remembered = tt; is-owed = tt; no_sooner = tt }
owed (call ∷ calls) = go (refusal (after calls) call.now call.asked) refl (owed calls)
  where
    go : (o : Option Refusal) → refusal (after calls) call.now call.asked ≡ o
        → Owed (after calls).last (after calls).remembered (stays (heard calls)) (past (heard calls))
        → Owed (after (call ∷ calls)).last (after (call ∷ calls)).remembered (stays (heard (call ∷ calls))) (past (heard (call ∷ calls)))
    go (some r) e ih =
        let z : time (heard calls) - time (heard calls) ≡ 0 = omega arith in
        rw (reply-refused (after calls) call r e, card-refused (after calls) call r e, z) ih
    go none e ih =
        rw (reply-accepted (after calls) call e, card-accepted (after calls) call e, (told-by-card calls).0, (told-by-card calls).1)
        (accepted-owed call calls e ih)

-- the sentences of demand 3
module _ (calls : List Call) where
  pub no_sooner : NoSooner (past (heard calls)) (stays (heard calls))
  no_sooner = (owed calls).no_sooner

  pub remembered : (tunnel t : ℕ) → RememberedWith (after calls).remembered tunnel t ↔ StillOwes (heard calls) tunnel t
  remembered tunnel t = (owes, is-there)
    where
      rs : List Remembered
      rs = (after calls).remembered

      owes : RememberedWith rs tunnel t → StillOwes (heard calls) tunnel t
      owes p =
          let q = all_among _ rs (owed calls).is-owed p.0 p.1 in
          record {
            stay = q.stay;
            one_of_them = q.one_of_them;
            so_named = q.so_named ∙ p.2;
            end = q.end;
            ended = q.ended;
            owes = q.owes ∙ ap some p.3;
            to_come = omega (arith, p.3, (told-by-card calls).0, (all_among _ rs (reached calls).memory.range p.0 p.1).1);
          }

      is-there : StillOwes (heard calls) tunnel t → RememberedWith rs tunnel t
      is-there q =
          subst (λ (n : ℕ). RememberedWith rs n t) q.so_named
          (all_among _ (stays (heard calls)) (owed calls).is-remembered q.stay q.one_of_them q.end t q.ended q.owes
          (omega (arith, q.to_come, (told-by-card calls).0)))

-- The goes of serving a part: in as many as the room for replies asks for, what serving it in one piece gives; and what they write.
-- Assumes nothing.
use Rattle.std.proofs.Common.{◌≡◌, ℕ, suc, ◌+◌, ◌-◌, ◌≤◌, Bool, true, false, eqb, List, [], ◌∷◌, ◌++◌, length, take, drop, refl, sym, subst, ap, ◌∙◌, arith, rules, Option, Some, None, length-append, length-drop, is_some}
use Rattle.std.proofs.lemmas.List.{take-append-le}
use Rattle.std.proofs.KnownBytes.{Appends-trans, Appends-nil}
use Rattle.std.specs.Io.KnownBytes.{Appends}
use mathlib.Core.List.{append_assoc}
use lib.Seq.{drop-drop, take_all}
use borrow.Author.Tests.{eqb-true, eqb-false}
use Rattle.reads.specs.declared.machine.End.{End}
use Rattle.reads.specs.declared.machine.Served.{Served}
use Rattle.reads.specs.Reads.{HasWrittenSome}
use Rattle.reads.specs.Machine.{Run, further, unserved, Serving, Went, ends_by, Round, round_at, served_part, Wrote}

-- a front of the whole is all of the whole
pub take_whole : (xs : List ℕ) → take (length xs) xs ≡ xs
take_whole [] = refl
take_whole (x ∷ xs) = ap (λ l. x ∷ l) (take_whole xs)

-- a front of the second list, after all of the first
take_past : (xs ys : List ℕ) (n : ℕ) → take (length xs + n) (xs ++ ys) ≡ xs ++ take n ys
take_past [] ys n = search rules
take_past (x ∷ xs) ys n =
    let e : length (x ∷ xs) + n ≡ suc (length xs + n) = omega arith in
    rw e (ap (λ l. x ∷ l) (take_past xs ys n))

-- all of it is a front of it, a front of a front is one, and so is a front of what is behind it
pub some_of_all : (a b : Option (List ℕ)) (xs : List ℕ) → Appends a b xs → HasWrittenSome a b xs
some_of_all a b xs h = (length xs, omega arith, rw take_whole h)

pub some_front : (a b : Option (List ℕ)) (xs ys : List ℕ) → HasWrittenSome a b xs → HasWrittenSome a b (xs ++ ys)
some_front a b xs ys h =
    let within : h.0 ≤ length xs = h.1 in
    (h.0, omega (arith, within, length-append xs ys), rw take-append-le h.2)

pub some_behind : (a b c : Option (List ℕ)) (xs ys : List ℕ) → Appends a b xs → HasWrittenSome b c ys → HasWrittenSome a c (xs ++ ys)
some_behind a b c xs ys h k =
    let within : k.0 ≤ length ys = k.1 in
    (length xs + k.0, omega (arith, within, length-append xs ys), rw take_past (Appends-trans a b c _ _ h k.2))

pub run-same : {M : Type 0} {a b : M} {m n : ℕ} {x y : List ℕ} {d e : Option End} → a ≡ b → m ≡ n → x ≡ y → d ≡ e
    → ◌≡◌ {A = Run M} (record { machine = a; used = m; text = x; end = d }) (record { machine = b; used = n; text = y; end = e })
run-same e f g h = rw (e, f, g, h) refl

pub round_same : {M : Type 0} {a b : M} {m n h k : ℕ} {d e : Option End} → a ≡ b → m ≡ n → h ≡ k → d ≡ e
    → ◌≡◌ {A = Round M} (record { machine = a; offset = m; held = h; standing = d }) (record { machine = b; offset = n; held = k; standing = e })
round_same e f g h = rw (e, f, g, h) refl

pub in_three : {M : Type 0} (a b c : Run M) → further (further a b) c ≡ further a (further b c)
in_three a b c = run-same refl (omega arith) (append_assoc a.text b.text c.text) refl

module _ {M : Type 0} (run : Serving M) where
  -- the goes so far, up to `used`, and then the rest give what the whole part gives; their replies are written
  pub record Ahead (first : M) (offset : ℕ) (part : List ℕ) (last : Bool) (a : Option (List ℕ)) (m : M) (used : ℕ) (b : Option (List ℕ)) : Type 0 where
    pub within : used ≤ length part
    pub text : List ℕ
    pub in_turn : run first offset part last
        ≡ further (record { machine = m; used = used; text = text; end = None }) (run m (offset + used) (drop used part) last)
    pub wrote : Appends a b text

  pub ahead-start : (first : M) (offset : ℕ) (part : List ℕ) (last : Bool) (a : Option (List ℕ)) → Ahead first offset part last a first 0 a
  ahead-start first offset part last a =
      let none : offset + 0 ≡ offset = omega arith in
      let r : Run M = run first offset part last in
      let zero-used : 0 + r.used ≡ r.used = omega arith in
      record {
        within = omega arith;
        text = [];
        in_turn = sym (ap (λ (n : ℕ). further (unserved first) (run first n part last)) none ∙ run-same refl zero-used refl refl);
        wrote = Appends-nil a;
      }

  -- a go began with the machine m behind `used` bytes of the part
  module _ (first : M) (offset : ℕ) (part : List ℕ) (last : Bool) (a b c : Option (List ℕ)) (m : M) (used : ℕ)
      (g : Ahead first offset part last a m used b) (new : M) (out : List ℕ) (go : Served)
      (w : Went run m (offset + used) (take (length part - used) (drop used part)) last new out go) where
    abbrev rest : List ℕ
    rest = drop used part

    abbrev put : List ℕ
    put = take go.written out

    went : Went run m (offset + used) rest last new out go
    went =
        subst (λ (s : List ℕ). Went run m (offset + used) s last new out go) (take_all (length part - used) rest (omega (arith, length-drop used part))) w

    pub used-within : used + go.used ≤ length part
    used-within = omega (arith, g.within, went.within.0, length-drop used part)

    before : Run M
    before = record { machine = m; used = used; text = g.text; end = None }

    pub next_go : go.end ≡ None → 1 ≤ go.used → Appends b c put → Ahead first offset part last a new (used + go.used) c
    next_go e moves h =
        let second : Run M = record { machine = new; used = go.used; text = put; end = None } in
        let there : offset + used + go.used ≡ offset + (used + go.used) = omega arith in
        record {
          within = used-within;
          text = g.text ++ put;
          in_turn =
              g.in_turn
              ∙ ap (further (record { machine = m; used = used; text = g.text; end = None })) (went.in_turn e moves)
              ∙ sym (in_three (record { machine = m; used = used; text = g.text; end = None }) second (run new (offset + used + go.used) (drop go.used rest) last))
              ∙ ap (λ (s : List ℕ). further (record { machine = new; used = used + go.used; text = g.text ++ put; end = None }) (run new (offset + used + go.used) s last)) (drop-drop go.used used part)
              ∙ ap (λ (n : ℕ). further (record { machine = new; used = used + go.used; text = g.text ++ put; end = None }) (run new n (drop (used + go.used) part) last)) there;
          wrote = Appends-trans a b c g.text put g.wrote h;
        }

    -- a go that ends, or uses nothing, is the last one
    all-is : (go.end ≡ None → go.used ≡ 0)
        → run first offset part last ≡ record { machine = new; used = used + go.used; text = g.text ++ put; end = go.end }
    all-is rests = g.in_turn ∙ ap (further (record { machine = m; used = used; text = g.text; end = None })) (went.is_all rests)

    pub last_go : (go.end ≡ None → go.used ≡ 0) → (how : Option End) → how ≡ ends_by go.end last (offset + (used + go.used))
        → round_at new (record { offset = offset + (used + go.used); held = length part - (used + go.used); end = how })
        ≡ served_part run first offset part last
    last_go rests how h =
        let e = all-is rests in
        let used-is : used + go.used ≡ (run first offset part last).used = ap (λ (r : Run M). r.used) (sym e) in
        round_same (ap (λ (r : Run M). r.machine) (sym e)) (ap (λ (n : ℕ). offset + n) used-is) (ap (λ (n : ℕ). length part - n) used-is)
        (h ∙ ap (λ (r : Run M). ends_by r.end last (offset + r.used)) (sym e))

    pub last-wrote : (go.end ≡ None → go.used ≡ 0) → Appends b c put → (how : Option End)
        → Wrote a c how (run first offset part last).text
    last-wrote rests h how =
        let all : Appends a c (run first offset part last).text =
        subst (Appends a c) (ap (λ (r : Run M). r.text) (sym (all-is rests))) (Appends-trans a b c g.text put g.wrote h) in
        record { whole = λ n. all; front = some_of_all a c _ all }

    -- a write that failed: whether or not more would have been served
    pub failed-wrote : HasWrittenSome b c put → HasWrittenSome a c (run first offset part last).text
    failed-wrote h = each go.end refl (eqb go.used 0) refl
      where
        here : HasWrittenSome a c (g.text ++ put)
        here = some_behind a b c g.text put g.wrote h

        each : (d : Option End) → go.end ≡ d → (t : Bool) → eqb go.used 0 ≡ t → HasWrittenSome a c (run first offset part last).text
        each (Some x) e t u =
            subst (HasWrittenSome a c) (ap (λ (r : Run M). r.text) (sym (all-is (λ n. let z : ◌≡◌ {A = Option End} None (Some x) = sym n ∙ e in cc)))) here
        each None e true u =
            subst (HasWrittenSome a c) (ap (λ (r : Run M). r.text) (sym (all-is (λ n. eqb-true go.used 0 u)))) here
        each None e false u =
            let more : Run M = run new (offset + used + go.used) (drop go.used rest) last in
            subst (HasWrittenSome a c)
            (append_assoc g.text put more.text
            ∙ ap (λ (r : Run M). r.text) (sym (g.in_turn ∙ ap (further (record { machine = m; used = used; text = g.text; end = None })) (went.in_turn e (omega (arith, eqb-false go.used 0 u))))))
            (some_front a c (g.text ++ put) more.text here)

-- whether there is a reason
pub not_none : (o : Option End) → is_some o ≡ true → o ≡ None → ⊥
not_none (Some e) h n = let z : ◌≡◌ {A = Option End} None (Some e) = sym n in cc
not_none None h n = let z : false ≡ true = h in cc

pub is_none-is : (o : Option End) → is_some o ≡ false → o ≡ None
is_none-is (Some e) h = let z : true ≡ false = h in cc
is_none-is None h = refl

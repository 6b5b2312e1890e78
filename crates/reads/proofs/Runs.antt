-- The rounds of a run, one after the other, for every machine: what each round leaves is what serving all bytes that came in one piece
-- gives, and a round that goes on has read a byte. Assumes nothing.
use Rattle.std.proofs.Common.{◌≡◌, ℕ, ◌+◌, ◌-◌, ◌<◌, ◌≤◌, Bool, true, false, eqb, List, [], ◌∷◌, ◌++◌, ◌⊎◌, inl, inr, length, take, drop, refl, sym, subst, ap, ◌∙◌, arith, Option, Some, None, length-append, length-drop, length-take}
use Rattle.std.proofs.KnownBytes.{Appends-trans, Appends-nil, Consumes-trans, Consumes-kept, Consumes-nil}
use Rattle.std.specs.Io.KnownBytes.{Appends, Consumes, Keeps}
use mathlib.Core.List.{append_assoc, append-nil}
use lib.Seq.{slice, length-slice, drop-drop, drop-append-le, length-take-le, take-add, take_at, drop_at, take-append-le}
use borrow.Author.Tests.{eqb-false}
use Rattle.reads.specs.declared.machine.End.{End}
use Rattle.reads.specs.declared.machine.End.TheVariants.{ReadFailed, WriteFailed}
use Rattle.reads.specs.declared.machine.Stand.{Stand}
use Rattle.reads.specs.Reads.{most_bytes, moved, Bytes, HasWrittenSome, Read, came, at_end, is_zero, is_failure, has_failed}
use Rattle.reads.specs.Machine.{Run, further, unserved, Serving, ends_by, with_end, ended, Round, round_at, served_part, failed, after_read, program_of, Wrote, replies, HasServed}
use Rattle.reads.specs.Program.{Program, after_reads, EachGoesOn}
use Rattle.reads.proofs.Goes.{round_same, some_of_all, some_behind}
use Rattle.reads.proofs.Moving.{all_moved}
use Rattle.reads.proofs.Reasons.{goes_when}

abbrev pub last_bytes : ℕ → List ℕ → List ℕ
last_bytes n s = drop (length s - n) s

-- the end of the input stands behind all bytes, and behind those that are left to serve
pub end-behind : (ending : Option ℕ) (last : Bool) (a b : List ℕ) → ended ending last (a ++ b) ≡ a ++ ended ending last b
end-behind ending false a b = refl
end-behind None true a b = refl
end-behind (Some x) true a b = append_assoc a b (x ∷ [])

-- the bytes s came, those from `offset` on wait, and `more` came: the last h of these are those of all that came from `next` on
pub rest-waits : (s more : List ℕ) (offset next h : ℕ) → offset ≤ length s → offset ≤ next → next + h ≡ length (s ++ more)
    → last_bytes h (drop offset s ++ more) ≡ drop next (s ++ more)
rest-waits s more offset next h within later size =
    let all : List ℕ = s ++ more in
    let from : offset + (length (drop offset all) - h) ≡ next = omega (arith, length-drop offset all) in
    ap (last_bytes h) (sym (drop-append-le offset s more within))
    ∙ drop-drop (length (drop offset all) - h) offset all
    ∙ ap (λ (n : ℕ). drop n all) from

module _ {M : Type 0} (run : Serving M) (ending : Option ℕ) (run_nil : (m : M) (offset : ℕ) → run m offset [] false ≡ unserved m)
    (run_more : (m : M) (offset : ℕ) (s more : List ℕ) (last : Bool) → (run m offset s false).end ≡ None
    → run m offset (s ++ more) last
    ≡ further (run m offset s false) (run (run m offset s false).machine (offset + (run m offset s false).used) (drop (run m offset s false).used s ++ more) last))
    (few_wait : (m : M) (offset : ℕ) (s : List ℕ) → (run m offset s false).end ≡ None
    → ((run m offset s false).used ≤ length s) × (length s ≤ (run m offset s false).used + 65535))
    (m : M) where
  abbrev pub p : Program (Round M)
  p = program_of run ending m

  -- the round r is what serving the bytes s in one piece gives, where more may come
  pub record SoFar (s : List ℕ) (r : Round M) : Type 0 where
    pub machine_is : (run m 0 s false).machine ≡ r.machine
    pub used-is : (run m 0 s false).used ≡ r.offset
    pub goes : (run m 0 s false).end ≡ None
    pub size_is : r.offset + r.held ≡ length s
    pub few : r.offset < most_bytes
    pub held-few : r.held ≤ 65535

  part-goes : (last : Bool) (s : List ℕ) → (served_part run m 0 (ended ending last s) last).standing ≡ None
      → SoFar s (served_part run m 0 (ended ending last s) last)
  part-goes true s h =
      let w = goes_when (run m 0 (with_end ending s) true).end true (0 + (run m 0 (with_end ending s) true).used) h in
      let z : true ≡ false = w.1 in cc
  part-goes false s h =
      let w = goes_when (run m 0 s false).end false (0 + (run m 0 s false).used) h in
      let f = few_wait m 0 s w.0 in
      record {
        machine_is = refl;
        used-is = omega arith;
        goes = w.0;
        size_is = omega (arith, f);
        few = w.2;
        held-few = omega (arith, f);
      }

  pub start_so_far : SoFar [] (record { machine = m; offset = 0; held = 0; standing = None })
  start_so_far =
      let e = run_nil m 0 in
      record {
        machine_is = ap (λ (r : Run M). r.machine) e;
        used-is = ap (λ (r : Run M). r.used) e;
        goes = ap (λ (r : Run M). r.end) e;
        size_is = refl;
        few = omega arith;
        held-few = omega arith;
      }

  pub so_far : (reads : List Read) → (after_reads p reads).standing ≡ None → SoFar (came reads) (after_reads p reads)
  so_far [] h = start_so_far
  so_far (x ∷ before) h = each x.got h
    where
      each : (got : Option ℕ) → (after_read run ending m got (came (x ∷ before)) (after_reads p before)).standing ≡ None
          → SoFar (came (x ∷ before)) (after_read run ending m got (came (x ∷ before)) (after_reads p before))
      each (Some k) h = part-goes (eqb k 0) (came (x ∷ before)) h
      each None h = let z : ◌≡◌ {A = Option End} None (Some ReadFailed) = sym h in cc

  -- where it goes on, the input has not ended and no read failed
  pub goes-more : (reads : List Read) → (after_reads p reads).standing ≡ None → (at_end reads ≡ false) × (has_failed reads ≡ false)
  goes-more [] h = (refl, refl)
  goes-more (x ∷ before) h = each x.got h
    where
      each : (got : Option ℕ) → (after_read run ending m got (came (x ∷ before)) (after_reads p before)).standing ≡ None
          → (is_zero got ≡ false) × (is_failure got ≡ false)
      each (Some k) h = ((goes_when _ (eqb k 0) _ h).1, refl)
      each None h = let z : ◌≡◌ {A = Option End} None (Some ReadFailed) = sym h in cc

  -- each read of a run was made where the ones before it let the program go on
  pub earlier : (later : List Read) (x : Read) (before : List Read) → EachGoesOn p (later ++ (x ∷ before))
      → (after_reads p before).standing ≡ None
  earlier [] x before e = e.0
  earlier (y ∷ later) x before e = earlier later x before e.1

  -- no read comes after the end of input, or after a read that failed
  pub no_more : (reads : List Read) → EachGoesOn p reads → (later : List Read) (x : Read) (before : List Read)
      → reads ≡ later ++ (x ∷ before)
      → ((after_reads p before).standing ≡ None) × (at_end before ≡ false) × (has_failed before ≡ false)
  no_more reads e later x before h =
      let on = earlier later x before (subst (EachGoesOn p) h e) in
      let g = goes-more before on in
      (on, g.0, g.1)

  -- the bytes s have come, and behind those that wait `more`
  module _ (s : List ℕ) (r : Round M) (f : SoFar s r) (more : List ℕ) where
    pub next-run : (last : Bool)
        → run m 0 (ended ending last (s ++ more)) last
        ≡ further (run m 0 s false) (run r.machine r.offset (ended ending last (drop r.offset s ++ more)) last)
    next-run last =
        let first : Run M = run m 0 s false in
        let none : 0 + first.used ≡ r.offset = omega (arith, f.used-is) in
        ap (λ (l : List ℕ). run m 0 l last) (end-behind ending last s more)
        ∙ run_more m 0 s (ended ending last more) last f.goes
        ∙ ap (λ (n : ℕ). further first (run first.machine n (drop first.used s ++ ended ending last more) last)) none
        ∙ ap (λ (n : ℕ). further first (run first.machine r.offset (drop n s ++ ended ending last more) last)) f.used-is
        ∙ ap (λ (x : M). further first (run x r.offset (drop r.offset s ++ ended ending last more) last)) f.machine_is
        ∙ ap (λ (l : List ℕ). further first (run r.machine r.offset l last)) (sym (end-behind ending last (drop r.offset s) more))

    pub next_round : (last : Bool)
        → served_part run r.machine r.offset (ended ending last (drop r.offset s ++ more)) last
        ≡ served_part run m 0 (ended ending last (s ++ more)) last
    next_round last =
        let next : Run M = run r.machine r.offset (ended ending last (drop r.offset s ++ more)) last in
        let all : Run M = run m 0 (ended ending last (s ++ more)) last in
        let e = next-run last in
        let used-is : r.offset + next.used ≡ 0 + all.used = omega (arith, f.used-is, ap (λ (x : Run M). x.used) e) in
        let held-is : length (ended ending last (drop r.offset s ++ more)) - next.used ≡ length (ended ending last (s ++ more)) - all.used =
        omega (
          arith,
          used-is,
          f.size_is,
          ap length (end-behind ending last (drop r.offset s) more),
          ap length (end-behind ending last s more),
          length-append (drop r.offset s) (ended ending last more),
          length-append s (ended ending last more),
          length-drop r.offset s,
        ) in
        round_same (ap (λ (x : Run M). x.machine) (sym e)) used-is held-is
        (ap (λ (d : Option End). ends_by d last (r.offset + next.used)) (ap (λ (x : Run M). x.end) (sym e))
        ∙ ap (ends_by all.end last) used-is)

  -- between two rounds: the reads so far; the bytes that wait stand in front of the buffer; what came was read, and the replies are written
  pub record Under (from0 from to0 to : Option (List ℕ)) (r : Round M) (input : List ℕ) : Type 0 where
    pub reads : List Read
    pub each_goes_on : EachGoesOn p reads
    pub round_is : r ≡ after_reads p reads
    pub goes : r.standing ≡ None
    pub waits : take r.held input ≡ drop r.offset (came reads)
    pub read : Consumes from0 from (came reads)
    pub wrote : Appends to0 to (run m 0 (came reads) false).text

  pub under-start : (from to : Option (List ℕ)) (input : List ℕ)
      → Under from from to to (record { machine = m; offset = 0; held = 0; standing = None }) input
  under-start from to input =
      record {
        reads = [];
        each_goes_on = tt;
        round_is = refl;
        goes = refl;
        waits = refl;
        read = Consumes-nil from;
        wrote = subst (Appends to to) (ap (λ (r : Run M). r.text) (sym (run_nil m 0))) (Appends-nil to);
      }

  module _ (from0 from to0 to : Option (List ℕ)) (r : Round M) (input : List ℕ) (u : Under from0 from to0 to r input) where
    pub under_so_far : SoFar (came u.reads) r
    under_so_far = subst (SoFar (came u.reads)) (sym u.round_is) (so_far u.reads (ap (λ (x : Round M). x.standing) (sym u.round_is) ∙ u.goes))

    goes_here : (after_reads p u.reads).standing ≡ None
    goes_here = ap (λ (x : Round M). x.standing) (sym u.round_is) ∙ u.goes

    -- a read that failed
    pub run_failed : (part : List ℕ) → Bytes part → 1 ≤ length part → (from1 : Option (List ℕ)) → Keeps from from1
        → HasServed run ending m r.machine (record { offset = r.offset; held = r.held; end = Some ReadFailed }) from0 from1 to0 to
    run_failed part bytes room from1 kept =
        let x : Read = record { part = part; are_bytes = bytes; got = None; some-room = room; in_room = tt } in
        let same : came u.reads ++ [] ≡ came u.reads = append-nil (came u.reads) in
        let text : (run m 0 (came u.reads ++ []) false).text ≡ (run m 0 (came u.reads) false).text = ap (λ (l : List ℕ). (run m 0 l false).text) same in
        let all : Appends to0 to (run m 0 (came u.reads ++ []) false).text = subst (Appends to0 to) (sym text) u.wrote in
        record {
          ran = record {
            reads = x ∷ u.reads;
            each_goes_on = (goes_here, u.each_goes_on);
            ends = λ h. let z : ◌≡◌ {A = Option End} None (Some ReadFailed) = sym h in cc;
            served = inr (ap failed u.round_is);
          };
          read = subst (Consumes from0 from1) (sym same) (Consumes-kept from0 from from1 (came u.reads) u.read kept);
          wrote = record { whole = λ n. all; front = some_of_all to0 to _ all };
        }

    -- k bytes came, the first of `part`, behind those that wait, and the part served is those and the end of the input, where it ended
    module _ (part : List ℕ) (bytes : Bytes part) (room : 1 ≤ length part) (k : ℕ) (few : k ≤ length part) (from1 : Option (List ℕ))
        (took : Consumes from from1 (take k part)) (served : List ℕ)
        (served-is : served ≡ ended ending (eqb k 0) (drop r.offset (came u.reads) ++ take k part)) (new : M) (x : Stand)
        (told : (x.end ≡ Some WriteFailed) ⊎ (round_at new x ≡ served_part run r.machine r.offset served (eqb k 0)))
        (to1 : Option (List ℕ)) (wrote : Wrote to to1 x.end (run r.machine r.offset served (eqb k 0)).text) where
      abbrev s : List ℕ
      s = came u.reads

      abbrev more : List ℕ
      more = take k part

      abbrev all : List Read
      all = record { part = part; are_bytes = bytes; got = Some k; some-room = room; in_room = few } ∷ u.reads

      f : SoFar s r
      f = under_so_far

      round_is : served_part run r.machine r.offset served (eqb k 0) ≡ after_reads p all
      round_is = ap (λ (l : List ℕ). served_part run r.machine r.offset l (eqb k 0)) served-is ∙ next_round s r f more (eqb k 0)

      text-is : (run m 0 (ended ending (eqb k 0) (s ++ more)) (eqb k 0)).text ≡ (run m 0 s false).text ++ (run r.machine r.offset served (eqb k 0)).text
      text-is =
          ap (λ (y : Run M). y.text) (next-run s r f more (eqb k 0))
          ∙ ap (λ (l : List ℕ). (run m 0 s false).text ++ (run r.machine r.offset l (eqb k 0)).text) (sym served-is)

      told-is : (x.end ≡ Some WriteFailed) ⊎ (round_at new x ≡ after_reads p all)
      told-is = go told
        where
          go : (x.end ≡ Some WriteFailed) ⊎ (round_at new x ≡ served_part run r.machine r.offset served (eqb k 0))
              → (x.end ≡ Some WriteFailed) ⊎ (round_at new x ≡ after_reads p all)
          go (inl w) = inl w
          go (inr e) = inr (e ∙ round_is)

      wrote-all : Wrote to0 to1 x.end (replies run ending m all)
      wrote-all =
          record {
            whole = λ n. subst (Appends to0 to1) (sym text-is) (Appends-trans to0 to to1 _ _ u.wrote (wrote.whole n));
            front = subst (HasWrittenSome to0 to1) (sym text-is) (some_behind to0 to to1 _ _ u.wrote wrote.front);
          }

      -- the run ends with the round
      pub run_ended : (x.end ≡ None → ⊥) → HasServed run ending m new x from0 from1 to0 to1
      run_ended n =
          record {
            ran = record { reads = all; each_goes_on = (goes_here, u.each_goes_on); ends = n; served = told-is };
            read = Consumes-trans from0 from from1 s more u.read took;
            wrote = wrote-all;
          }

      -- or goes on from it
      module _ (goes : x.end ≡ None) where
        no_failure : x.end ≡ Some WriteFailed → ⊥
        no_failure w = let z : ◌≡◌ {A = Option End} None (Some WriteFailed) = sym goes ∙ w in cc

        is : round_at new x ≡ after_reads p all
        is = go told-is
          where
            go : (x.end ≡ Some WriteFailed) ⊎ (round_at new x ≡ after_reads p all) → round_at new x ≡ after_reads p all
            go (inl w) = absurd (no_failure w)
            go (inr e) = e

        went_on : (after_reads p all).standing ≡ None
        went_on = ap (λ (y : Round M). y.standing) (sym is) ∙ goes

        next_so_far : SoFar (came all) (round_at new x)
        next_so_far = subst (SoFar (came all)) (sym is) (so_far all went_on)

        pub not_zero : eqb k 0 ≡ false
        not_zero = (goes-more all went_on).0

        pub further-on : (r.offset + r.held < x.offset + x.held) × (x.offset < most_bytes) × (x.held ≤ 65535)
        further-on = (
          omega (arith, f.size_is, next_so_far.size_is, length-append s more, length-take-le k part few, eqb-false k 0 not_zero),
          next_so_far.few,
          next_so_far.held-few,
        )

        later : r.offset ≤ x.offset
        later = go told
          where
            go : (x.end ≡ Some WriteFailed) ⊎ (round_at new x ≡ served_part run r.machine r.offset served (eqb k 0)) → r.offset ≤ x.offset
            go (inl w) = absurd (no_failure w)
            go (inr e) = omega (arith, ap (λ (y : Round M). y.offset) e)

        pub next_under : (after : List ℕ) → take x.held after ≡ last_bytes x.held served → Under from0 from1 to0 to1 (round_at new x) after
        next_under after rest =
            let served_here : served ≡ drop r.offset s ++ more = served-is ∙ ap (λ (t : Bool). ended ending t (drop r.offset s ++ more)) not_zero in
            record {
              reads = all;
              each_goes_on = (goes_here, u.each_goes_on);
              round_is = is;
              goes = goes;
              waits =
                  rest
                  ∙ ap (last_bytes x.held) served_here
                  ∙ rest-waits s more r.offset x.offset x.held (omega (arith, f.size_is)) later next_so_far.size_is;
              read = Consumes-trans from0 from from1 s more u.read took;
              wrote =
                  subst (Appends to0 to1) (ap (λ (t : Bool). (run m 0 (ended ending t (came all)) t).text) not_zero)
                  (wrote-all.whole no_failure);
            }

-- the buffer `input`, of n bytes, after a read behind its first `held` bytes that left `part`
abbrev pub filled : ℕ → ℕ → List ℕ → List ℕ → List ℕ
filled n held input part = take held input ++ (part ++ drop (n - held) (drop held input))

module _ (n held : ℕ) (input part : List ℕ) (within : held ≤ n) (size : n ≡ length input)
    (kept : length part ≡ length (take (n - held) (drop held input))) where
  pub filled-size : n ≡ length (filled n held input part)
  filled-size =
      omega (
        arith,
        length-append (take held input) (part ++ drop (n - held) (drop held input)),
        length-append part (drop (n - held) (drop held input)),
        length-take held input,
        length-take (n - held) (drop held input),
        length-drop held input,
        length-drop (n - held) (drop held input),
      )

  pub part-size : length part ≡ n - held
  part-size = omega (arith, kept, length-take (n - held) (drop held input), length-drop held input)

  -- the bytes that wait are not touched by the read, and what it left stands behind them
  pub filled_served : (k : ℕ) → k ≤ length part → take (held + k) (filled n held input part) ≡ take held input ++ take k part
  filled_served k few =
      let front : List ℕ = take held input in
      let rest : List ℕ = part ++ drop (n - held) (drop held input) in
      let there : length front ≡ held = length-take-le held input (omega (arith, size)) in
      take-add held k (front ++ rest)
      ∙ ap (λ (l : List ℕ). l ++ take k (drop held (front ++ rest))) (take_at front rest held there)
      ∙ ap (λ (l : List ℕ). front ++ take k l) (drop_at front rest held there)
      ∙ ap (λ (l : List ℕ). front ++ l) (take-append-le k part (drop (n - held) (drop held input)) few)

-- the last h of the bytes before `end`, moved to the front
pub kept : (input after : List ℕ) (end h : ℕ) → end ≤ length input → h ≤ length (take end input)
    → after ≡ moved (end - h) end input → take h after ≡ last_bytes h (take end input)
kept input after end h fits few e =
    let size : length (take end input) ≡ end = length-take-le end input fits in
    let same : length (slice (end - h) end input) ≡ h = omega (arith, few, size, length-slice (end - h) end input fits) in
    ap (take h) (e ∙ all_moved (end - h) end input (omega arith) fits)
    ∙ take_at (slice (end - h) end input) (drop (end - (end - h)) input) h same
    ∙ ap (λ (n : ℕ). drop (n - h) (take end input)) (sym size)

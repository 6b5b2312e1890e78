-- What a run means follows from what `run` promises. Assumes nothing.
use Prim.Native.Nat.{ℕ, suc, ◌+◌, ◌-◌, ◌^◌, ◌≤◌}
use mathlib.Core.Path.{◌≡◌, refl, ap, sym, ◌∙◌, subst}
use mathlib.Core.Bool.{Bool, true, false, cond}
use mathlib.Core.List.{List, [], ◌∷◌, ◌++◌, append-nil}
use mathlib.Core.Logic.{◌⊎◌, inl, inr}
use native.Mathlib.Omega.{arith}
use lib.Dec.{eqb}
use lib.ListN.{length, take, drop, length-append}
use Rattle.std.specs.Prelude.{Option, Some, None}
use Rattle.model.proofs.Tests.{clash}
use Rattle.reads.specs.declared.machine.End.{End}
use Rattle.reads.specs.declared.machine.End.TheVariants.{EndOfInput, Refused, ReadFailed, WriteFailed, ByteLimit}
use Rattle.reads.specs.Reads.{Read, count_of, brought, came, is_zero, at_end, is_failure, has_failed}
use Rattle.reads.specs.Machine.{Round, ended, after_read}
use Rattle.reads.specs.Program.{after_reads, EachGoesOn, Ran}
use Rattle.reads.proofs.Reasons.{number, end-last, last-ends, limit_when, no-read-failed, unrefused, not_write}
use Rattle.reads.proofs.Brought.{brings, came-bytes}
use Rattle.reads.proofs.Runs.{SoFar, so_far, goes-more, earlier, end-behind}
use Rattle.queries.specs.Meaning.{is_long, input_means, lines_mean}
use Rattle.sizing.specs.declared.Sizer.{Sizer}
use Rattle.sizing.specs.Program.{Run, further, serve_of, run_of, newline, begun, program}
use Rattle.sizing.specs.Meaning.{ended_lines, begun_line, Begins, whole, in_rounds, Meaning}
use Rattle.sizing.specs.Serving.{any-cut}
use Rattle.sizing.specs.Laws.{runs_nil, runs_more, runs_few, used-few}
use Rattle.sizing.proofs.Waiting.{begun-waits, end-used, ended-answered, all-answered, answers_begin}

abbrev SoFarHere : List ℕ → Round Sizer → Type 0
SoFarHere = SoFar run_of newline runs_nil runs_more runs_few begun

-- what a round that no failed write ended means, of all bytes s
record Means (s : List ℕ) (last failed : Bool) (r : Round Sizer) : Type 0 where
  long-is : r.machine.long ≡ (serve_of false (ended newline last s)).long
  used-is : r.offset ≡ (serve_of false (ended newline last s)).used
  size_is : last ≡ false → r.offset + r.held ≡ length s
  at-end : r.standing ≡ Some EndOfInput → (last ≡ true) × (r.held ≡ 0) × (r.offset ≡ suc (length s))
  ends : last ≡ true → r.standing ≡ Some EndOfInput
  fails : (r.standing ≡ Some ReadFailed → failed ≡ true) × (failed ≡ true → r.standing ≡ Some ReadFailed)
  limit : r.standing ≡ Some ByteLimit → 2 ^ 63 ≤ r.offset
  not-refused : r.standing ≡ Some Refused → ⊥

so_far_means : (s : List ℕ) (r : Round Sizer) (how : Option End) (failed : Bool) → SoFarHere s r → (how ≡ Some EndOfInput → ⊥) → (how ≡ Some ByteLimit → ⊥) → (how ≡ Some Refused → ⊥)
    → (how ≡ Some ReadFailed → failed ≡ true) × (failed ≡ true → how ≡ Some ReadFailed)
    → Means s false failed (record { machine = r.machine; offset = r.offset; held = r.held; standing = how })
so_far_means s r how failed f not-ended no-limit unrefused fails =
    record {
      long-is = ap (λ (x : Sizer). x.long) (sym f.machine_is);
      used-is = sym f.used-is;
      size_is = λ h. f.size_is;
      at-end = λ h. absurd (not-ended h);
      ends = λ h. absurd (clash h refl);
      fails = fails;
      limit = λ h. absurd (no-limit h);
      not-refused = unrefused;
    }

-- at the end of the input nothing is held
none-held : (s : List ℕ) (last : Bool) → last ≡ true → length (ended newline last s) - (serve_of false (ended newline last s)).used ≡ 0
none-held s true e = omega (arith, end-used false s)
none-held s false e = absurd (clash e refl)

all-used : (s : List ℕ) (last : Bool) → last ≡ true → 0 + (serve_of false (ended newline last s)).used ≡ suc (length s)
all-used s true e = omega (arith, end-used false s, length-append s (10 ∷ []))
all-used s false e = absurd (clash e refl)

all_held_lem : (s : List ℕ) (last : Bool) → last ≡ false
    → (serve_of false (ended newline last s)).used + (length (ended newline last s) - (serve_of false (ended newline last s)).used) ≡ length s
all_held_lem s true e = absurd (clash refl e)
all_held_lem s false e = omega (arith, used-few false s)

read-means : (got : Option ℕ) (part s : List ℕ) (before : Round Sizer) → SoFarHere s before
    → Means (s ++ take (count_of got) part) (is_zero got) (is_failure got)
    (after_read run_of newline begun got (s ++ take (count_of got) part) before)
read-means None part s before f =
    subst
    (λ (l : List ℕ). Means l false true (record { machine = before.machine; offset = before.offset; held = before.held; standing = Some ReadFailed }))
    (sym (append-nil s))
    (so_far_means s before (Some ReadFailed) true f (λ h. omega (arith, ap number h)) (λ h. omega (arith, ap number h)) (λ h. omega (arith, ap number h)) (λ h. refl, λ h. refl))
read-means (Some k) part s before f =
    let all : List ℕ = s ++ take k part in
    let run : Run = serve_of false (ended newline (eqb k 0) all) in
    record {
      long-is = refl;
      used-is = omega arith;
      size_is = λ h. omega (arith, all_held_lem all (eqb k 0) h);
      at-end = λ h.
          let e = end-last (eqb k 0) (0 + run.used) h in
          (e, omega (arith, none-held all (eqb k 0) e), all-used all (eqb k 0) e);
      ends = λ h. last-ends (eqb k 0) (0 + run.used) h;
      fails = (λ h. absurd (no-read-failed (eqb k 0) (0 + run.used) h), λ h. absurd (clash h refl));
      limit = limit_when None (eqb k 0) (0 + run.used) (λ z. absurd (omega (arith, ap number z)));
      not-refused = unrefused (eqb k 0) (0 + run.used);
    }

after-means : (reads : List Read) → EachGoesOn program reads → Means (came reads) (at_end reads) (has_failed reads) (after_reads program reads)
after-means [] e =
    so_far_means [] (after_reads program []) None false (so_far run_of newline runs_nil runs_more runs_few begun [] refl) (λ h. omega (arith, ap number h)) (λ h. omega (arith, ap number h)) (λ h. omega (arith, ap number h))
    (λ h. absurd (omega (arith, ap number h)), λ h. absurd (clash h refl))
after-means (x ∷ before) e = read-means x.got x.part (came before) (after_reads program before) (so_far run_of newline runs_nil runs_more runs_few begun before e.0)

no_more : (reads : List Read) → EachGoesOn program reads → (later : List Read) (x : Read) (before : List Read) → reads ≡ later ++ (x ∷ before)
    → (at_end before ≡ false) × (has_failed before ≡ false)
no_more reads e later x before h = goes-more run_of newline runs_nil runs_more runs_few begun before (earlier run_of newline runs_nil runs_more runs_few begun later x before (subst (EachGoesOn program) h e))

-- serving what waits with the bytes that a read brought goes on from what was served before
served_on : (s more : List ℕ) (last : Bool)
    → serve_of false (ended newline last (s ++ more))
    ≡ further (serve_of false s) (serve_of (serve_of false s).long (ended newline last (drop (serve_of false s).used s ++ more)))
served_on s more last =
    let first : Run = serve_of false s in
    ap (serve_of false) (end-behind newline last s more)
    ∙ any-cut false s (ended newline last more)
    ∙ ap (λ (l : List ℕ). further first (serve_of first.long l)) (sym (end-behind newline last (drop first.used s) more))

rounds_are : (reads : List Read) → EachGoesOn program reads → in_rounds reads ≡ (whole reads).text
rounds_are [] e = refl
rounds_are (x ∷ before) e =
    let s : List ℕ = came before in
    let last : Bool = is_zero x.got in
    let first : whole before ≡ serve_of false s = ap (λ (t : Bool). serve_of false (ended newline t s)) (goes-more run_of newline runs_nil runs_more runs_few begun before e.0).0 in
    ap
    (λ (l : List ℕ). l ++ (serve_of (whole before).long (ended newline last (drop (whole before).used s ++ brought x))).text)
    (rounds_are before e.1)
    ∙ sym (
    subst
    (λ (r : Run). (serve_of false (ended newline last (s ++ brought x))).text ≡ r.text ++ (serve_of r.long (ended newline last (drop r.used s ++ brought x))).text)
    (sym first)
    (ap (λ (r : Run). r.text) (served_on s (brought x) last))
    )

-- before the end of the input
module _ (s : List ℕ) where
  held-is : (last failed : Bool) (r : Round Sizer) → Means s last failed r → last ≡ false
      → (r.machine.long ≡ is_long (begun_line s)) × (r.held ≡ cond (is_long (begun_line s)) 0 (length (begun_line s))) × (r.offset + r.held ≡ length s)
  held-is true failed r m e = absurd (clash refl e)
  held-is false failed r m e =
      let b = begun-waits s in
      (m.long-is ∙ b.0, omega (arith, m.used-is, m.size_is e, b.1), m.size_is e)

  lines_are : (last : Bool) → last ≡ false → (serve_of false (ended newline last s)).text ≡ lines_mean (ended_lines s)
  lines_are true e = absurd (clash refl e)
  lines_are false e = ended-answered s

  stand : (last : Bool) → last ≡ false → (later : List ℕ) → Begins (serve_of false (ended newline last s)).text (input_means (s ++ later))
  stand true e = absurd (clash refl e)
  stand false e = answers_begin s

  input-is : (last : Bool) → last ≡ true → (serve_of false (ended newline last s)).text ≡ input_means s
  input-is true e = all-answered s
  input-is false e = absurd (clash e refl)

pub meaning : (r : Round Sizer) (n : Ran program r) → Meaning r n.reads
meaning r n = go n.served
  where
    reads : List Read
    reads = n.reads

    go : (r.standing ≡ Some WriteFailed) ⊎ (r ≡ after_reads program reads) → Meaning r reads
    go (inl w) =
        record {
          all-brought = brings;
          are_bytes = came-bytes reads;
          every_byte = λ h. absurd (h w);
          line-held = λ h. absurd (h w);
          end_of_input = λ h. absurd (not_write r.standing (Some EndOfInput) w (λ z. omega arith) h);
          at_the_end = λ h. absurd (h w);
          read-failed = λ h. absurd (h w);
          byte_limit = λ h. absurd (not_write r.standing (Some ByteLimit) w (λ z. omega arith) h);
          a_reason = n.ends;
          never-refused = λ h. not_write r.standing (Some Refused) w (λ z. omega arith) h;
          no-more-reads = no_more reads n.each_goes_on;
          seen_in_rounds = rounds_are reads n.each_goes_on;
          lines-answered = lines_are (came reads) (at_end reads);
          answers-stand = stand (came reads) (at_end reads);
          input-answered = input-is (came reads) (at_end reads);
        }
    go (inr e) =
        let m : Means (came reads) (at_end reads) (has_failed reads) r =
        subst (Means (came reads) (at_end reads) (has_failed reads)) (sym e) (after-means reads n.each_goes_on) in
        record {
          all-brought = brings;
          are_bytes = came-bytes reads;
          every_byte = λ h. (m.long-is, m.used-is);
          line-held = λ h. held-is (came reads) (at_end reads) (has_failed reads) r m;
          end_of_input = m.at-end;
          at_the_end = λ h. m.ends;
          read-failed = λ h. m.fails;
          byte_limit = m.limit;
          a_reason = n.ends;
          never-refused = m.not-refused;
          no-more-reads = no_more reads n.each_goes_on;
          seen_in_rounds = rounds_are reads n.each_goes_on;
          lines-answered = lines_are (came reads) (at_end reads);
          answers-stand = stand (came reads) (at_end reads);
          input-answered = input-is (came reads) (at_end reads);
        }

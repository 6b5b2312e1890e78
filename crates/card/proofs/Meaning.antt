-- What a run means follows from what `run` promises. Assumes nothing.
use Prim.Native.Nat.{ℕ, suc, ◌+◌, ◌^◌, ◌≤◌}
use mathlib.Core.Path.{◌≡◌, refl, ap, sym, ◌∙◌, subst}
use mathlib.Core.Bool.{Bool, true, false}
use mathlib.Core.List.{List, [], ◌∷◌, ◌++◌, append-nil}
use mathlib.Core.Logic.{◌⊎◌, inl, inr, ⊎_elim}
use native.Mathlib.Omega.{arith}
use native.Mathlib.Nat.{zero-add}
use lib.Dec.{eqb}
use lib.ListN.{length, take}
use Rattle.std.specs.Prelude.{Option, Some, None, is_some}
use Rattle.std.specs.Option.{option_or}
use Rattle.reads.specs.declared.machine.End.{End}
use Rattle.reads.specs.declared.machine.End.TheVariants.{EndOfInput, Refused, ReadFailed, WriteFailed, ByteLimit}
use Rattle.reads.specs.Reads.{Bytes, Read, count_of, came, is_zero, at_end, is_failure, has_failed}
use Rattle.reads.specs.Machine.{Round, ended, ends_by, served_part, after_read}
use Rattle.reads.specs.Program.{after_reads, EachGoesOn, Ran}
use Rattle.reads.proofs.Reasons.{number, end-last, last-ends, limit_when, no-read-failed, unrefused as not_refused, not_write}
use Rattle.reads.proofs.Brought.{brings, came-bytes}
use Rattle.reads.proofs.Runs.{SoFar, so_far, no_more}
use Rattle.rules.proofs.Tests.{clash}
use Rattle.turns.specs.State.{made}
use Rattle.records.specs.declared.answers.BadRecord.{BadRecord}
use Rattle.records.specs.Answer.{bad_detail}
use Rattle.records.specs.Bytes.{AreBytes}
use Rattle.records.specs.Rows.{Detail}
use Rattle.lines.specs.Serve.{Run, stopped, serve_of, card_lines}
use Rattle.lines.specs.Asked.{Asked, asked, sent}
use Rattle.lines.specs.Answers.{Answered}
use Rattle.lines.proofs.Rest.{all-used}
use Rattle.lines.proofs.Parts.{any-cut}
use Rattle.lines.proofs.Answered.{answered, all-answered}
use Rattle.lines.proofs.Answers.{answers}
use Rattle.card.specs.declared.Teller.{Teller}
use Rattle.card.specs.Program.{end_of, run_of, uncalled, program}
use Rattle.card.specs.Laws.{runs_nil, runs_more, runs_few, unrefused}
use Rattle.card.specs.Meaning.{whole, Meaning}

abbrev SoFarHere : List ℕ → Round Teller → Type 0
SoFarHere = SoFar run_of None runs_nil runs_more runs_few uncalled

-- the end of the input is no byte to the machine
all-same : (last : Bool) (s : List ℕ) → ended None last s ≡ s
all-same true s = refl
all-same false s = refl

-- at the end of the input all bytes are used, or it was refused
end-used : (s : List ℕ) (last : Bool) → last ≡ true → stopped (serve_of (made []) 0 s last None) ≡ false
    → (serve_of (made []) 0 s last None).used ≡ length s
end-used s false e n = clash (sym e)
end-used s true e n = each (all-used (made []) 0 s)
  where
    each : (stopped (serve_of (made []) 0 s true None) ≡ true) ⊎ ((serve_of (made []) 0 s true None).used ≡ length s)
        → (serve_of (made []) 0 s true None).used ≡ length s
    each (inl h) = clash (sym h ∙ n)
    each (inr h) = h

-- what a round that no failed write ended means, of all bytes s
record Means (s : List ℕ) (last failed : Bool) (r : Round Teller) : Type 0 where
  core_is : r.machine.core ≡ (serve_of (made []) 0 s last None).core
  used-is : r.offset ≡ (serve_of (made []) 0 s last None).used
  refused : r.standing ≡ Some Refused → stopped (serve_of (made []) 0 s last None) ≡ true
  stops : stopped (serve_of (made []) 0 s last None) ≡ true → r.standing ≡ Some Refused
  refusal_is : r.standing ≡ Some Refused → r.machine.refused ≡ (serve_of (made []) 0 s last None).refused
  at-end : r.standing ≡ Some EndOfInput
      → (last ≡ true) × (stopped (serve_of (made []) 0 s last None) ≡ false) × (r.offset ≡ length s)
  ends : last ≡ true → stopped (serve_of (made []) 0 s last None) ≡ false → r.standing ≡ Some EndOfInput
  fails : (r.standing ≡ Some ReadFailed → failed ≡ true) × (failed ≡ true → r.standing ≡ Some ReadFailed)
  limit : r.standing ≡ Some ByteLimit → 2 ^ 63 ≤ r.offset

so_far_means : (s : List ℕ) (r : Round Teller) (how : Option End) (failed : Bool) → SoFarHere s r → (how ≡ Some Refused → ⊥)
    → (how ≡ Some EndOfInput → ⊥) → (how ≡ Some ByteLimit → ⊥) → (how ≡ Some ReadFailed → failed ≡ true) × (failed ≡ true → how ≡ Some ReadFailed)
    → Means s false failed (record { machine = r.machine; offset = r.offset; held = r.held; standing = how })
so_far_means s r how failed f not-refused not-ended no-limit fails =
    record {
      core_is = ap (λ (m : Teller). m.core) (sym f.machine_is);
      used-is = sym f.used-is;
      refused = λ h. absurd (not-refused h);
      stops = λ h. clash (sym h ∙ ap is_some (unrefused _ f.goes));
      refusal_is = λ h. absurd (not-refused h);
      at-end = λ h. absurd (not-ended h);
      ends = λ h n. clash (sym h);
      fails = fails;
      limit = λ h. absurd (no-limit h);
    }

abbrev whole_run : List ℕ → Bool → Run
whole_run s last = serve_of (made []) 0 s last None

-- a part that was served: the refusal is the run's, or it stands by the end of the input and the byte limit
part-means : (s : List ℕ) (last : Bool) → Means s last false (served_part run_of uncalled 0 s last)
part-means s last = each (serve_of (made []) 0 s last None).refused refl
  where
    each : (o : Option BadRecord) → (whole_run s last).refused ≡ o → Means s last false (served_part run_of uncalled 0 s last)
    each (Some b) e =
        let how : ends_by (end_of (whole_run s last).refused) last (0 + (whole_run s last).used) ≡ Some Refused = ap (λ (o : Option BadRecord). ends_by (end_of o) last (0 + (whole_run s last).used)) e in
        let is : stopped (whole_run s last) ≡ true = ap is_some e in
        record {
          core_is = refl;
          used-is = omega arith;
          refused = λ h. is;
          stops = λ h. how;
          refusal_is = λ h. ap (λ (o : Option BadRecord). option_or o None) e ∙ sym e;
          at-end = λ h. absurd (omega (arith, ap number (sym how ∙ h)));
          ends = λ h n. clash (sym is ∙ n);
          fails = (λ h. absurd (omega (arith, ap number (sym how ∙ h))), λ h. clash (sym h));
          limit = λ h. absurd (omega (arith, ap number (sym how ∙ h)));
        }
    each None e =
        let how : ends_by (end_of (whole_run s last).refused) last (0 + (whole_run s last).used) ≡ ends_by None last (0 + (whole_run s last).used) = ap (λ (o : Option BadRecord). ends_by (end_of o) last (0 + (whole_run s last).used)) e in
        let is : stopped (whole_run s last) ≡ false = ap is_some e in
        record {
          core_is = refl;
          used-is = omega arith;
          refused = λ h. absurd (not_refused last (0 + (whole_run s last).used) (sym how ∙ h));
          stops = λ h. clash (sym h ∙ is);
          refusal_is = λ h. absurd (not_refused last (0 + (whole_run s last).used) (sym how ∙ h));
          at-end = λ h. let l = end-last last (0 + (whole_run s last).used) (sym how ∙ h) in (l, is, omega (arith, end-used s last l is));
          ends = λ h n. how ∙ last-ends last (0 + (whole_run s last).used) h;
          fails = (λ h. absurd (no-read-failed last (0 + (whole_run s last).used) (sym how ∙ h)), λ h. clash (sym h));
          limit = λ h. limit_when None last (0 + (whole_run s last).used) (λ z. absurd (omega (arith, ap number z))) (sym how ∙ h);
        }

read-means : (got : Option ℕ) (part s : List ℕ) (before : Round Teller) → SoFarHere s before
    → Means (s ++ take (count_of got) part) (is_zero got) (is_failure got)
    (after_read run_of None uncalled got (s ++ take (count_of got) part) before)
read-means None part s before f =
    so_far_means (s ++ []) before (Some ReadFailed) true (subst (λ (l : List ℕ). SoFarHere l before) (sym (append-nil s)) f)
    (λ h. omega (arith, ap number h)) (λ h. omega (arith, ap number h)) (λ h. omega (arith, ap number h)) (λ h. refl, λ h. refl)
read-means (Some k) part s before f =
    let all : List ℕ = s ++ take k part in
    subst (λ (l : List ℕ). Means all (eqb k 0) false (served_part run_of uncalled 0 l (eqb k 0))) (sym (all-same (eqb k 0) all))
    (part-means all (eqb k 0))

after-means : (reads : List Read) → EachGoesOn program reads → Means (came reads) (at_end reads) (has_failed reads) (after_reads program reads)
after-means [] e =
    so_far_means [] (after_reads program []) None false (so_far run_of None runs_nil runs_more runs_few uncalled [] refl) (λ h. omega (arith, ap number h)) (λ h. omega (arith, ap number h))
    (λ h. omega (arith, ap number h)) (λ h. absurd (omega (arith, ap number h)), λ h. clash (sym h))
after-means (x ∷ before) e = read-means x.got x.part (came before) (after_reads program before) (so_far run_of None runs_nil runs_more runs_few uncalled before e.0)

-- nor does a read come after a refusal
none_after : (reads : List Read) → EachGoesOn program reads → (later : List Read) (x : Read) (before : List Read)
    → reads ≡ later ++ (x ∷ before)
    → (stopped (whole before) ≡ false) × (at_end before ≡ false) × (has_failed before ≡ false)
none_after reads e later x before h =
    let n = no_more run_of None runs_nil runs_more runs_few uncalled reads e later x before h in
    (ap (λ (t : Bool). stopped (serve_of (made []) 0 (came before) t None)) n.1 ∙ ap is_some (unrefused _ (so_far run_of None runs_nil runs_more runs_few uncalled before n.0).goes), n.1, n.2)

-- the same of each place and along the list
all-bytes : (s : List ℕ) → Bytes s → AreBytes s
all-bytes [] h = tt
all-bytes (b ∷ s) h = (h 0, all-bytes s (λ i. h (suc i)))

-- where the input has ended or is refused, nothing that may come behind it changes a line
whole-lines : (s : List ℕ) (last : Bool) → (last ≡ true) ⊎ (stopped (serve_of (made []) 0 s last None) ≡ true)
    → (serve_of (made []) 0 s last None).lines ≡ card_lines s
whole-lines s true why = refl
whole-lines s false (inl e) = clash (sym e)
whole-lines s false (inr h) =
    let cut : serve_of (made []) 0 (s ++ []) true None ≡ serve_of (made []) 0 s false None = any-cut (made []) 0 s [] true None ∙ rw h in
    ap (λ (x : Run). x.lines) (sym cut) ∙ ap card_lines (append-nil s)

-- the bytes used are those of the records of the calls
used_all : (s : List ℕ) (last : Bool) → (serve_of (made []) 0 s last None).used ≡ length (sent (asked s).calls)
used_all s last = sym (zero-add _) ∙ (all-answered [] 0 s last).used-is

-- where serving is refused, the refusal's detail is how many bytes were used
refused_where : (s : List ℕ) (last : Bool) (b : BadRecord) → (serve_of (made []) 0 s last None).refused ≡ Some b
    → ((asked s).refusal ≡ Some b) × Detail (serve_of (made []) 0 s last None).used (bad_detail b)
refused_where s last b h =
    let a : Answered [] 0 s last (serve_of (made []) 0 s last None) = answered [] 0 s last None in
    let e : a.stop ≡ Some b = sym a.refused_is ∙ h in
    (ap (λ (y : Asked). y.refusal) (a.refused b e).1, subst (λ (n : ℕ). Detail n (bad_detail b)) (zero-add _) (a.stops_where b e).1)

refused_at : (s : List ℕ) (last : Bool) (o : Option BadRecord) → (serve_of (made []) 0 s last None).refused ≡ o → is_some o ≡ true
    → (b : BadRecord) × ((serve_of (made []) 0 s last None).refused ≡ Some b) × ((asked s).refusal ≡ Some b)
    × Detail (serve_of (made []) 0 s last None).used (bad_detail b)
refused_at s last (Some b) e h = let w = refused_where s last b e in (b, e, w.0, w.1)
refused_at s last None e h = clash (sym h)

pub meaning : (r : Round Teller) (n : Ran program r) → Meaning r n.reads
meaning r n = go n.served
  where
    reads : List Read
    reads = n.reads

    go : (r.standing ≡ Some WriteFailed) ⊎ (r ≡ after_reads program reads) → Meaning r reads
    go (inl w) =
        record {
          all-brought = brings;
          every_byte = λ h. absurd (h w);
          refused = λ h. absurd (h w);
          end_of_input = λ h. absurd (not_write r.standing (Some EndOfInput) w (λ z. omega arith) h);
          at_the_end = λ h. absurd (h w);
          read-failed = λ h. absurd (h w);
          byte_limit = λ h. absurd (not_write r.standing (Some ByteLimit) w (λ z. omega arith) h);
          a_reason = n.ends;
          no-more-reads = none_after reads n.each_goes_on;
          used-is = λ h. absurd (h w);
          refused-at = λ h. absurd (not_write r.standing (Some Refused) w (λ z. omega arith) h);
          calls-made = λ h. absurd (h w);
          lines-served = λ why.
              absurd
              (⊎_elim (λ h. not_write r.standing (Some EndOfInput) w (λ z. omega arith) h) (λ h. not_write r.standing (Some Refused) w (λ z. omega arith) h) why);
          are_bytes = all-bytes (came reads) (came-bytes reads);
          answers = answers (came reads);
        }
    go (inr e) =
        let m : Means (came reads) (at_end reads) (has_failed reads) r =
        subst (Means (came reads) (at_end reads) (has_failed reads)) (sym e) (after-means reads n.each_goes_on) in
        record {
          all-brought = brings;
          every_byte = λ h. (m.core_is, m.used-is);
          refused = λ h. (m.refused, m.stops);
          end_of_input = m.at-end;
          at_the_end = λ h. m.ends;
          read-failed = λ h. m.fails;
          byte_limit = m.limit;
          a_reason = n.ends;
          no-more-reads = none_after reads n.each_goes_on;
          used-is = λ h. m.used-is ∙ used_all (came reads) (at_end reads);
          refused-at = λ h.
              let x = refused_at (came reads) (at_end reads) (whole reads).refused refl (m.refused h) in
              (x.0, m.refusal_is h ∙ x.1, x.2, subst (λ (n : ℕ). Detail n (bad_detail x.0)) (sym m.used-is) x.3);
          calls-made = λ h. m.core_is ∙ (all-answered [] 0 (came reads) (at_end reads)).core_is;
          lines-served = λ why. whole-lines (came reads) (at_end reads) (⊎_elim (λ h. inl (m.at-end h).0) (λ h. inr (m.refused h)) why);
          are_bytes = all-bytes (came reads) (came-bytes reads);
          answers = answers (came reads);
        }

-- What a run means follows from what `run` promises. Assumes nothing.
use Prim.Native.Nat.{ℕ, ◌+◌, ◌-◌, ◌≤◌, ◌<◌}
use mathlib.Core.Path.{◌≡◌, refl, ap, sym, ◌∙◌, subst}
use mathlib.Core.Bool.{Bool, true, false, cond, ◌||◌}
use mathlib.Core.List.{List, [], ◌∷◌, ◌++◌, append-nil}
use mathlib.Core.Logic.{◌⊎◌, inl, inr}
use native.Mathlib.Omega.{arith}
use lib.Dec.{eqb}
use lib.ListN.{length, take, length-append, length-take}
use borrow.Author.Tests.{ltb-true, ltb-false, le-ltb, eqb-true}
use Rattle.std.specs.Prelude.{Option, Some, None}
use Rattle.model.proofs.Tests.{clash}
use Rattle.reads.specs.declared.machine.End.{End}
use Rattle.reads.specs.declared.machine.End.TheVariants.{EndOfInput, Refused, ReadFailed, WriteFailed, ByteLimit}
use Rattle.reads.specs.Reads.{Read, count_of, came, is_zero, at_end, is_failure, has_failed}
use Rattle.reads.specs.Machine.{Run, unserved, ends_by, ended as with_end, Round, served_part, after_read}
use Rattle.reads.specs.Program.{after_reads, EachGoesOn, Ran}
use Rattle.reads.proofs.Reasons.{number, not_write}
use Rattle.reads.proofs.Brought.{brings, came-bytes}
use Rattle.reads.proofs.Runs.{SoFar, so_far, goes-more, earlier}
use Rattle.queries.specs.Meaning.{is_long}
use Rattle.sales.specs.declared.Sale.{Sale}
use Rattle.sales.specs.Sales.{answer_to}
use Rattle.sales.specs.Program.{run_of, unasked_yet, program}
use Rattle.sales.specs.Laws.{runs_nil, runs_more, runs_few, goes_on}
use Rattle.sales.specs.Meaning.{Meaning}

-- what a round that no failed write ended means, of all bytes s
record Means (s : List ℕ) (last failed : Bool) (r : Round Sale) : Type 0 where
  held-is : r.held ≡ length s
  at-end : r.standing ≡ Some EndOfInput → (last ≡ true) × (length s ≤ 65535)
  ends : last ≡ true → r.standing ≡ Some EndOfInput
  limit : r.standing ≡ Some ByteLimit → 65535 < length s
  too_long : 65535 < length s → r.standing ≡ Some ByteLimit
  answers : (r.standing ≡ Some EndOfInput) ⊎ (r.standing ≡ Some ByteLimit) → r.machine.served ≡ length (answer_to s)
  fails : r.standing ≡ Some ReadFailed → (failed ≡ true) × (r.machine.served ≡ 0)
  failing : failed ≡ true → r.standing ≡ Some ReadFailed
  not-refused : r.standing ≡ Some Refused → ⊥

-- the end of the input is no byte to the machine
all-same : (last : Bool) (s : List ℕ) → with_end None last s ≡ s
all-same true s = refl
all-same false s = refl

-- a part that was served: whether it was the last, and whether there are too many bytes
abbrev shape : Bool → Bool → List ℕ → Round Sale
shape last t s =
    let r : Run Sale =
    cond (last || t) (record { machine = record { served = length (answer_to s) }; used = 0; text = answer_to s; end = cond t (Some ByteLimit) None })
    (unserved unasked_yet) in
    record { machine = r.machine; offset = 0 + r.used; held = length s - r.used; standing = ends_by r.end last (0 + r.used) }

-- nothing is served and few bytes are held: the program goes on, or a read failed
held-means : (s : List ℕ) (how : Option End) (failed : Bool) (offset held : ℕ) → held ≡ length s → length s ≤ 65535 → (how ≡ Some EndOfInput → ⊥)
    → (how ≡ Some ByteLimit → ⊥) → (how ≡ Some Refused → ⊥) → (how ≡ Some ReadFailed → failed ≡ true) → (failed ≡ true → how ≡ Some ReadFailed)
    → Means s false failed (record { machine = unasked_yet; offset = offset; held = held; standing = how })
held-means s how failed offset held e few not-ended no-limit unrefused f g =
    record {
      held-is = e;
      at-end = λ h. absurd (not-ended h);
      ends = λ h. absurd (clash h refl);
      limit = λ h. absurd (no-limit h);
      too_long = λ h. absurd (omega arith);
      answers = none;
      fails = λ h. (f h, refl);
      failing = g;
      not-refused = unrefused;
    }
  where
    none : (how ≡ Some EndOfInput) ⊎ (how ≡ Some ByteLimit) → 0 ≡ length (answer_to s)
    none (inl h) = absurd (not-ended h)
    none (inr h) = absurd (no-limit h)

too_long_means : (s : List ℕ) (last : Bool) → is_long s ≡ true → (last ≡ true → ⊥) → Means s last false (shape last true s)
too_long_means s true e few = absurd (few refl)
too_long_means s false e few =
    record {
      held-is = omega arith;
      at-end = λ z. absurd (omega (arith, ap number z));
      ends = λ z. absurd (clash z refl);
      limit = λ z. ltb-true 65535 (length s) e;
      too_long = λ z. refl;
      answers = λ z. refl;
      fails = λ z. absurd (omega (arith, ap number z));
      failing = λ z. absurd (clash z refl);
      not-refused = λ z. omega (arith, ap number z);
    }

end-means : (s : List ℕ) → is_long s ≡ false → Means s true false (shape true false s)
end-means s e =
    let least = ltb-false 65535 (length s) e in
    record {
      held-is = omega arith;
      at-end = λ z. (refl, omega (arith, least));
      ends = λ z. refl;
      limit = λ z. absurd (omega (arith, ap number z));
      too_long = λ z. absurd (omega (arith, least));
      answers = λ z. refl;
      fails = λ z. absurd (omega (arith, ap number z));
      failing = λ z. absurd (clash z refl);
      not-refused = λ z. omega (arith, ap number z);
    }

-- after a read that did not fail: whether it was the last, and whether there are too many bytes
round_means : (all : List ℕ) (last t : Bool) → is_long all ≡ t → (last ≡ true → t ≡ false)
    → Means all last false (served_part run_of unasked_yet 0 all last)
round_means all last t e few = subst (λ (b : Bool). Means all last false (shape last b all)) (sym e) (go last t e few)
  where
    go : (last t : Bool) → is_long all ≡ t → (last ≡ true → t ≡ false) → Means all last false (shape last t all)
    go last true e few = too_long_means all last e (λ z. clash refl (few z))
    go true false e few = end-means all e
    go false false e few =
        held-means all None false 0 (length all - 0) (omega arith) (omega (arith, ltb-false 65535 (length all) e)) (λ z. omega (arith, ap number z))
        (λ z. omega (arith, ap number z)) (λ z. omega (arith, ap number z)) (λ z. absurd (omega (arith, ap number z))) (λ z. absurd (clash z refl))

-- at the end no byte came, so that there are not too many
last-few : (k : ℕ) (part s : List ℕ) → length s ≤ 65535 → eqb k 0 ≡ true → is_long (s ++ take k part) ≡ false
last-few k part s few e =
    le-ltb 65535 (length (s ++ take k part)) (omega (arith, few, eqb-true k 0 e, length-append s (take k part), length-take k part))

-- the bytes s have come, and more may come: they all wait
abbrev SoFarHere : List ℕ → Round Sale → Type 0
SoFarHere = SoFar run_of None runs_nil runs_more runs_few unasked_yet

-- where it goes on, there are not too many bytes
not_long : (s : List ℕ) → (run_of unasked_yet 0 s false).end ≡ None → is_long s ≡ false
not_long s h = go (is_long s) refl
  where
    go : (t : Bool) → is_long s ≡ t → t ≡ false
    go false e = refl
    go true e = absurd (goes_on s unasked_yet e h)

so_far_is : (s : List ℕ) (r : Round Sale) → SoFarHere s r → (r.machine ≡ unasked_yet) × (r.held ≡ length s) × (length s ≤ 65535)
so_far_is s r f =
    let n = not_long s f.goes in
    let e : run_of unasked_yet 0 s false ≡ unserved unasked_yet = rw n refl in (
      sym f.machine_is ∙ ap (λ (x : Run Sale). x.machine) e,
      omega (arith, f.size_is, f.used-is, ap (λ (x : Run Sale). x.used) e),
      omega (arith, ltb-false 65535 (length s) n),
    )

-- after any read
read-means : (got : Option ℕ) (part s : List ℕ) (before : Round Sale) → SoFarHere s before
    → Means (s ++ take (count_of got) part) (is_zero got) (is_failure got)
    (after_read run_of None unasked_yet got (s ++ take (count_of got) part) before)
read-means None part s before f =
    let same : s ++ [] ≡ s = append-nil s in
    let g = so_far_is s before f in
    subst (λ (m : Sale). Means (s ++ []) false true (record { machine = m; offset = before.offset; held = before.held; standing = Some ReadFailed })) (sym g.0)
    (held-means (s ++ []) (Some ReadFailed) true before.offset before.held (g.1 ∙ ap length (sym same)) (omega (arith, g.2, ap length same))
    (λ z. omega (arith, ap number z)) (λ z. omega (arith, ap number z)) (λ z. omega (arith, ap number z)) (λ z. refl) (λ z. refl))
read-means (Some k) part s before f =
    let all : List ℕ = s ++ take k part in
    subst (λ (l : List ℕ). Means all (eqb k 0) false (served_part run_of unasked_yet 0 l (eqb k 0))) (sym (all-same (eqb k 0) all))
    (round_means all (eqb k 0) (is_long all) refl (last-few k part s (so_far_is s before f).2))

after-means : (reads : List Read) → EachGoesOn program reads → Means (came reads) (at_end reads) (has_failed reads) (after_reads program reads)
after-means [] e =
    held-means [] None false 0 0 refl (omega arith) (λ z. omega (arith, ap number z)) (λ z. omega (arith, ap number z))
    (λ z. omega (arith, ap number z)) (λ z. absurd (omega (arith, ap number z))) (λ z. absurd (clash z refl))
after-means (x ∷ before) e = read-means x.got x.part (came before) (after_reads program before) (so_far run_of None runs_nil runs_more runs_few unasked_yet before e.0)

no_more : (reads : List Read) → EachGoesOn program reads → (later : List Read) (x : Read) (before : List Read) → reads ≡ later ++ (x ∷ before)
    → (at_end before ≡ false) × (has_failed before ≡ false) × (length (came before) ≤ 65535)
no_more reads e later x before h =
    let on = earlier run_of None runs_nil runs_more runs_few unasked_yet later x before (subst (EachGoesOn program) h e) in
    let g = goes-more run_of None runs_nil runs_more runs_few unasked_yet before on in
    (g.0, g.1, (so_far_is (came before) (after_reads program before) (so_far run_of None runs_nil runs_more runs_few unasked_yet before on)).2)

pub meaning : (r : Round Sale) (n : Ran program r) → Meaning r n.reads
meaning r n = go n.served
  where
    reads : List Read
    reads = n.reads

    go : (r.standing ≡ Some WriteFailed) ⊎ (r ≡ after_reads program reads) → Meaning r reads
    go (inl w) =
        record {
          all-brought = brings;
          are_bytes = came-bytes reads;
          every_byte = λ h. absurd (h w);
          end_of_input = λ h. absurd (not_write r.standing (Some EndOfInput) w (λ z. omega arith) h);
          at_the_end = λ h. absurd (h w);
          byte_limit = λ h. absurd (not_write r.standing (Some ByteLimit) w (λ z. omega arith) h);
          at_the_limit = λ h. absurd (h w);
          all-served = neither;
          read-failed = λ h. absurd (not_write r.standing (Some ReadFailed) w (λ z. omega arith) h);
          at_the_failure = λ h. absurd (h w);
          a_reason = n.ends;
          never-refused = λ h. not_write r.standing (Some Refused) w (λ z. omega arith) h;
          no-more-reads = no_more reads n.each_goes_on;
        }
      where
        neither : (r.standing ≡ Some EndOfInput) ⊎ (r.standing ≡ Some ByteLimit) → r.machine.served ≡ length (answer_to (came reads))
        neither (inl h) = absurd (not_write r.standing (Some EndOfInput) w (λ z. omega arith) h)
        neither (inr h) = absurd (not_write r.standing (Some ByteLimit) w (λ z. omega arith) h)
    go (inr e) =
        let m : Means (came reads) (at_end reads) (has_failed reads) r =
        subst (Means (came reads) (at_end reads) (has_failed reads)) (sym e) (after-means reads n.each_goes_on) in
        record {
          all-brought = brings;
          are_bytes = came-bytes reads;
          every_byte = λ h. m.held-is;
          end_of_input = m.at-end;
          at_the_end = λ h. m.ends;
          byte_limit = m.limit;
          at_the_limit = λ h. m.too_long;
          all-served = m.answers;
          read-failed = m.fails;
          at_the_failure = λ h. m.failing;
          a_reason = n.ends;
          never-refused = m.not-refused;
          no-more-reads = no_more reads n.each_goes_on;
        }

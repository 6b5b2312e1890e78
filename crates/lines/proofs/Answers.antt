-- For every input: the program makes the calls of its records, writes the lines of their replies and no more, and demand 3 holds of these
-- calls. Assumes nothing.
use Prim.Native.Nat.{ℕ}
use mathlib.Core.Path.{◌≡◌, refl, ap, sym, ◌∙◌, subst}
use mathlib.Core.Bool.{Bool, true, false, cond, ◌&&◌}
use Rattle.std.specs.Prelude.{Option, None, Some}
use mathlib.Core.List.{List, [], ◌∷◌, ◌++◌, map}
use native.Mathlib.Nat.{zero-add}
use lib.Dec.{eqb}
use Rattle.rules.specs.Turn.{Reply as Said}
use Rattle.records.specs.declared.answers.BadRecord.{BadRecord}
use Rattle.turns.specs.Calls.{turned, paper_reply}
use Rattle.turns.specs.State.{Asking, made}
use Rattle.turns.specs.Promised.{exchanges}
use Rattle.turns.proofs.Promised.{promised}
use Rattle.records.specs.Answer.{bad_number, bad_detail}
use Rattle.records.specs.Rows.{Detail}
use Rattle.lines.specs.Serve.{serve_of, card_lines}
use Rattle.lines.specs.Asked.{asked, replies, lines_of, last_line}
use Rattle.lines.specs.Answers.{newlines, Answers}
use Rattle.lines.proofs.Rest.{nothing_written}
use Rattle.lines.proofs.Sent.{asked-bytes, sent-asked}
use Rattle.lines.proofs.Newline.{a_line_each}
use Rattle.lines.proofs.Parts.{parts_same}
use Rattle.lines.proofs.Answered.{answered_now, AllAnswered, all-answered}

all-now : (o : Option BadRecord) → answered_now true o ≡ o
all-now None = refl
all-now (Some r) = go (eqb (bad_number r) 20)
  where
    go : (t : Bool) → cond (t && false) None (Some r) ≡ Some r
    go true = refl
    go false = refl

-- each reply stands in the exchange of its call
replies-told : (calls : List Asking) → map paper_reply (replies calls) ≡ map (λ x. x.reply) (exchanges calls)
replies-told [] = refl
replies-told (a ∷ before) =
    ap (λ (l : List Said). paper_reply (turned (made before) a.now a.change).reply ∷ l) (replies-told before)

-- the whole input
pub answers : (input : List ℕ) → Answers input
answers input =
    record {
      input-is = asked-bytes [] input;
      calls_are = λ calls rest o h e s. ap asked s ∙ sent-asked calls rest o h e;
      core_is = all.core_is;
      used-is = sym (zero-add _) ∙ all.used-is;
      lines_are = lines;
      a_line_each = ap newlines lines ∙ a_line_each (asked input);
      empty-none = λ e. ap card_lines e ∙ nothing_written;
      in_any_parts = λ ps e. parts_same ps (made []) 0 [] ∙ ap (λ (s : List ℕ). serve_of (made []) 0 s true None) e;
      stops_where = λ r e.
          let x = all.stops_where r (all-now (asked input).refusal ∙ e) in
          (x.0, subst (λ (n : ℕ). Detail n (bad_detail r)) all.used-is x.1);
      replies_are = replies-told (asked input).calls;
      promised = promised (asked input).calls;
    }
  where
    all : AllAnswered [] 0 input true
    all = all-answered [] 0 input true

    lines : card_lines input ≡ lines_of (replies (asked input).calls) ++ last_line (asked input).refusal
    lines =
        all.lines_are
        ∙ ap (λ (o : Option BadRecord). lines_of (replies (asked input).calls) ++ last_line o) (all-now (asked input).refusal)

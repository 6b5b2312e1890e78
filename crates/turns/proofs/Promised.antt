-- Whatever calls a host made, all that specs/Promised says holds of its core and of the answer to one call more; and so of every core,
-- whose type says that calls made it, and of every answer that the contract of a call allows. Assumes nothing.
use Prim.Native.Nat.{ℕ}
use mathlib.Core.Path.{◌≡◌, refl, ap, sym, ◌∙◌, subst}
use mathlib.Core.List.{List, [], ◌∷◌, map}
use mathlib.Core.Option.{Option, none, some}
use native.Mathlib.Omega.{arith}
use Rattle.units.specs.declared.Moment.{Moment}
use Rattle.rules.specs.Lists.{All}
use Rattle.rules.specs.Card.{Card}
use Rattle.rules.specs.Refuse.{refusal}
use Rattle.rules.specs.Refuse.{Refusal as Row}
use Rattle.rules.specs.Told.{total}
use Rattle.rules.specs.Turn.{Call, turn, accepted, report, ok, refused, told_by}
use Rattle.rules.specs.Turn.{reported as reportedBy}
use Rattle.rules.specs.Turn.{Reply as Said}
use Rattle.rules.specs.Meaning.{Meaning}
use Rattle.rules.specs.Rows.{Table, NoRow}
use Rattle.rules.specs.Budgets.{Budgets}
use Rattle.rules.specs.Brought.{Brings}
use Rattle.rules.specs.Marks.{Marks}
use Rattle.rules.specs.Leaving.{Leaving}
use Rattle.rules.specs.History.{Exchange, after, heard}
use Rattle.rules.specs.Demand3.{ItsStay}
use Rattle.rules.proofs.Rows.{table-after}
use Rattle.rules.proofs.Leaving.{leaving}
use Rattle.rules.specs.Accounts.{Books}
use Rattle.rules.proofs.Accounts.{totals}
use Rattle.rules.proofs.Books.{books, removal}
use Rattle.rules.proofs.Undecided.{no_decision}
use Rattle.rules.proofs.Marks.{marks}
use Rattle.rules.proofs.Budgets.{budgets}
use Rattle.rules.proofs.Brought.{brings}
use Rattle.rules.proofs.Meaning.{meaning}
use Rattle.rules.proofs.Demand3.{demand3}
use Rattle.rules.proofs.Reached.{card-accepted, reply-accepted, reply-refused}
use Rattle.std.specs.Prelude.{Result, Ok, Err}
use Rattle.turns.specs.declared.Change.{Change}
use Rattle.turns.specs.declared.Change.TheVariants.{Remove}
use Rattle.turns.specs.declared.Refusal.{Refusal}
use Rattle.turns.specs.declared.Report.{Report}
use Rattle.turns.specs.declared.Answer.{Answer}
use Rattle.turns.specs.declared.Core.TheInside.{Inside}
use Rattle.turns.specs.Written.{card, core_of}
use Rattle.turns.specs.Calls.{asked, call_of, number_of, detail_of, paper_refusal, paper_reply, reply_said, report_said, turned}
use Rattle.turns.specs.State.{Asking, made, calls_of, IsCore}
use Rattle.turns.specs.Promised.{Called, none_yet, one_more, exchanges, Next, Promised}
use Rattle.turns.proofs.Paper.{paper-said, said-paper, report-paper, whole-answer}
use Rattle.turns.proofs.Made.{core-written, made-shown, made_so}

-- one call more
module _ (calls : List Asking) (now : Moment) (change : Change) where
  abbrev call : Call
  call = call_of now change

  abbrev old : Card
  old = made calls

  abbrev answer : Answer
  answer = turned (made calls) now change

  table : Table old call
  table = subst (λ (k : Card). Table k call) (sym (made_so calls)) (table-after (calls_of calls) call)

  -- the reply's number and values are the rules'
  paper : paper_reply answer.reply ≡ (turn old call).reply
  unfolding turned
  paper = paper-said old call

  replied : (r : Result Report Refusal) → (turn old call).reply ≡ paper_reply r → answer.reply ≡ r
  replied r e = sym (said-paper answer.reply) ∙ ap reply_said (paper ∙ e) ∙ said-paper r

  -- an accepted reply is the report after the five steps
  reported : (r : Report) → answer.reply ≡ Ok r → refusal old call.now call.asked ≡ none
  reported r e = go (refusal old call.now call.asked) refl
    where
      go : (o : Option Row) → refusal old call.now call.asked ≡ o → o ≡ none
      go none f = refl
      go (some x) f =
          let clash : paper_reply (Ok r) ≡ refused x = ap paper_reply (sym e) ∙ paper ∙ reply-refused old call x f in
          let z : ◌≡◌ {A = ℕ} 0 1 = cc in
          absurd (omega arith)

  told_so : (r : Report) → answer.reply ≡ Ok r → (turn old call).reply ≡ ok (reportedBy old call)
  told_so r e = reply-accepted old call (reported r e)

  -- and its last number is the rules' total
  brought_so : (r : Report) → answer.reply ≡ Ok r → r.brought.0 ≡ total (told_by old call.now)
  brought_so r e = ap last-number (ap paper_reply (sym e) ∙ paper ∙ told_so r e)
    where
      last-number : Said → ℕ
      last-number (ok x) = x.brought
      last-number (refused x) = 0

  no_row : (r : Report) → answer.reply ≡ Ok r → NoRow old call
  no_row r e = table.accepts.0 (told_so r e)

  shown : answer.core ≡ (turn old call).card
  unfolding turned
  shown = refl

  -- a fact of the card before and the card after, carried from the rules' cards to those that calls make
  carried : (P : Card → Card → Type 0) → P (after (calls_of calls)) (after (call ∷ calls_of calls)) → P old answer.core
  carried P p = subst (P old) (sym shown) (subst (λ (k : Card). P k (turn k call).card) (sym (made_so calls)) p)

  none_after : NoRow old call → NoRow (after (calls_of calls)) call
  none_after n = subst (λ (k : Card). NoRow k call) (made_so calls) n

  back : (x : Refusal) → answer.reply ≡ Err x → answer.core ≡ old
  back x e = shown ∙ table.hands_back (paper_refusal x) (sym paper ∙ ap paper_reply e)

  next : Next (made calls) now change answer
  next =
      record {
        refuses = λ x. (
          λ e. (table.refuses (number_of x) (detail_of x)).0 (sym paper ∙ ap paper_reply e),
          λ f. replied (Err x) ((table.refuses (number_of x) (detail_of x)).1 f),
        );
        hands_back = back;
        hands_back_fields = λ x e before left v w p q.
            w.written ∙ ap core_of (q ∙ back x e ∙ sym p) ∙ sym v.written;
        accepts = (
          λ r. no_row r.0 r.1,
          λ n. (
            report_said (reportedBy old call),
            replied (Ok (report_said (reportedBy old call))) (table.accepts.1 n ∙ sym (report-paper (reportedBy old call))),
          ),
        );
        then = λ r e.
            let steps : answer.core ≡ accepted old call = shown ∙ card-accepted old call (reported r e) in
            record {
              five_steps = steps;
              five_steps_fields = λ left w q. w.written ∙ ap core_of (q ∙ steps);
              reports =
                  paper ∙ told_so r e ∙ ap (λ (k : Card). ok (report (total (told_by old call.now)) k)) (sym steps)
                  ∙ ap (λ (n : ℕ). ok (report n answer.core)) (sym (brought_so r e));
              brings =
                  subst (Brings old call) (sym (brought_so r e))
                  (subst (λ (k : Card). Brings k call (total (told_by k call.now))) (sym (made_so calls))
                  (brings (calls_of calls) call (none_after (no_row r e))));
              at-now = ap (λ (k : Card). k.last) shown ∙ table.at-now (no_row r e);
              budgets = carried (λ k d. Budgets k call d.vcpus) (budgets (calls_of calls) call (none_after (no_row r e)));
              marks =
                  carried (λ k d. Marks k.vcpus now.0 (asked change) d.vcpus) (marks (calls_of calls) call (none_after (no_row r e)));
              leaving = carried (λ k d. Leaving k call d.remembered) (leaving (calls_of calls) call (none_after (no_row r e)));
              books = carried (λ k d. Books k call d) (books (calls_of calls) call (none_after (no_row r e)));
            };
      }

-- the calls and the replies that the code gives are those that demand 3 is told by
told : (calls : List Asking) → exchanges calls ≡ heard (calls_of calls)
told [] = refl
told (a ∷ calls) =
    let again = ap (λ (k : Card). (turn k (call_of a.now a.change)).reply) (made_so calls) in
    same _ _ _ _ (paper calls a.now a.change ∙ again) (told calls)
  where
    same : (r r' : Said) (l l' : List Exchange) → r ≡ r' → l ≡ l'
        → record { call = call_of a.now a.change; reply = r } ∷ l ≡ record { call = call_of a.now a.change; reply = r' } ∷ l'
    same r r' l l' p q = rw (p, q)

pub promised : (calls : List Asking) → Promised calls
promised calls =
    record {
      shows = made_so calls;
      fields = made-shown calls;
      sound = (core-written (core_of (made calls)) (made calls) calls refl refl).1;
      is = λ c v e. v.written ∙ ap core_of (e ∙ made_so calls);
      meaning = subst Meaning (sym (made_so calls)) (meaning (calls_of calls));
      told = told calls;
      demand3 = demand3 (calls_of calls);
      every_vcpu =
          subst (λ (l : List Exchange). All (ItsStay l) (made calls).vcpus) (sym (told calls))
          (subst (λ (k : Card). All (ItsStay (heard (calls_of calls))) k.vcpus) (sym (made_so calls))
          (demand3 (calls_of calls)).every_vcpu);
      totals = totals (calls_of calls);
      removal = λ now t n. removal (calls_of calls) (call_of now (Remove t)) t.0
          (subst (λ (k : Card). NoRow k (call_of now (Remove t))) (made_so calls) n) refl;
      no_decision = no_decision (made calls);
      next = next calls;
    }

-- of a core in a contract, which calls made, and of whatever answer the contract of a call allows
pub next-answer : (calls : List Asking) (c : Card) → c ≡ made calls → (now : Moment) (change : Change) (a : Answer)
    → paper_reply a.reply ≡ (turn c (call_of now change)).reply
    → a.core ≡ (turn c (call_of now change)).card
    → Next c now change a
next-answer calls c e now change a p q =
    subst (Next c now change) (sym (whole-answer c now change a p q))
    (subst (λ (d : Card). Next d now change (turned d now change)) (sym e) (next calls now change))

-- a host's core is what its own calls make, and its replies are those that demand 3 is told by
pub called : (calls : List Asking) (replies : List (Result Report Refusal)) (c : Card) → Called calls replies c
    → (c ≡ made calls) × (map paper_reply replies ≡ map (λ x. x.reply) (exchanges calls))
called _ _ c (none_yet _ e) = (e, refl)
called _ _ _ (one_more calls replies c now change a before p q) =
    let ih = called calls replies c before in
    let e : a ≡ turned (made calls) now change =
    whole-answer c now change a p q ∙ ap (λ (d : Card). turned d now change) ih.0 in
    (ap (λ (x : Answer). x.core) e, cons _ _ _ _ (ap (λ (x : Answer). paper_reply x.reply) e) ih.1)
  where
    cons : (r r' : Said) (l l' : List Said) → r ≡ r' → l ≡ l' → r ∷ l ≡ r' ∷ l'
    cons r r' l l' p q = rw (p, q)

-- .. and the fields of the core that it holds are that card written
pub called-fields : (calls : List Asking) (replies : List (Result Report Refusal)) (c : Card) → Called calls replies c
    → (d : Inside) → IsCore d → card d ≡ c → d ≡ core_of (made calls)
called-fields calls replies c h d v e = v.written ∙ ap core_of (e ∙ (called calls replies c h).0)

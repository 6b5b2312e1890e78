-- What a host may rely on, whatever calls it made: the card that its core shows, the history that its calls and the replies tell, and
-- the answer to one call more. A core stands here as a contract sees it, by its card; where fields are named, for every core that shows
-- that card. Proved of every list of calls, and of every host that makes them (Called), in proofs/Promised.
-- Assumes nothing.
use Rattle.std.specs.Prelude.{◌≡◌, List, [], ◌∷◌, ◌↔◌, Result, Ok, Err}
use Rattle.units.specs.declared.Moment.{Moment}
use Rattle.units.specs.declared.Tunnel.{Tunnel}
use Rattle.rules.specs.Lists.{All}
use Rattle.rules.specs.Card.{Card, empty}
use Rattle.rules.specs.Turn.{turn, accepted, ok}
use Rattle.rules.specs.Turn.{report as reportOf}
use Rattle.rules.specs.Meaning.{Meaning}
use Rattle.rules.specs.Rows.{First, NoRow}
use Rattle.rules.specs.Budgets.{Budgets}
use Rattle.rules.specs.Brought.{Brings}
use Rattle.rules.specs.Marks.{Marks}
use Rattle.rules.specs.Leaving.{Leaving}
use Rattle.rules.specs.History.{Exchange, after, heard}
use Rattle.rules.specs.Demand3.{ItsStay, Demand3}
use Rattle.rules.specs.Accounts.{Totals, Books, Removal, NoDecision}
use Rattle.turns.specs.declared.Change.{Change}
use Rattle.turns.specs.declared.Change.TheVariants.{Remove}
use Rattle.turns.specs.declared.Core.TheInside.{Inside}
use Rattle.turns.specs.declared.Refusal.{Refusal}
use Rattle.turns.specs.declared.Report.{Report}
use Rattle.turns.specs.declared.Answer.{Answer}
use Rattle.turns.specs.Written.{card, core_of}
use Rattle.turns.specs.Calls.{asked, call_of, number_of, detail_of, paper_reply, turned}
use Rattle.turns.specs.State.{Asking, made, calls_of, IsCore}

-- a host made these calls, each on the core that the one before it handed back, and got these replies and this core; of the functions
-- it knows their contracts alone. The newest call stands first
pub data Called : List Asking → List (Result Report Refusal) → Card → Type 0 where
  none_yet : (c : Card) → c ≡ empty → Called [] [] c
  one_more : (calls : List Asking) (replies : List (Result Report Refusal)) (c : Card) (now : Moment) (change : Change) (a : Answer)
      → Called calls replies c
      → paper_reply a.reply ≡ (turn c (call_of now change)).reply
      → a.core ≡ (turn c (call_of now change)).card
      → Called (record { now = now; change = change } ∷ calls) (a.reply ∷ replies) a.core

-- the calls, each with the paper's number and values of its reply; the newest first
abbrev pub exchanges : List Asking → List Exchange
exchanges [] = []
exchanges (a ∷ calls) =
    record { call = call_of a.now a.change; reply = paper_reply (turned (made calls) a.now a.change).reply }
    ∷ exchanges calls

-- an accepted call: steps 1 to 5, and the report `r` of the card after them, and of what step 2 brought
pub record Accepted (c : Card) (now : Moment) (change : Change) (a : Answer) (r : Report) : Type 0 where
  pub five_steps : a.core ≡ accepted c (call_of now change)
  -- and the fields left are that card written
  pub five_steps_fields : (left : Inside) → IsCore left → card left ≡ a.core → left ≡ core_of (accepted c (call_of now change))
  pub reports : paper_reply a.reply ≡ ok (reportOf r.brought.0 a.core)
  pub brings : Brings c (call_of now change) r.brought.0
  pub at-now : a.core.last ≡ now.0
  -- what steps 1 and 2, and step 3, mean; what steps 4 and 5 mean is in Meaning
  pub budgets : Budgets c (call_of now change) a.core.vcpus
  pub marks : Marks c.vcpus now.0 (asked change) a.core.vcpus
  -- who is remembered then, and with which time
  pub leaving : Leaving c (call_of now change) a.core.remembered
  -- how the ticks of removed tenants and the idle ticks move; those of a VCPU are in Budgets
  pub books : Books c (call_of now change) a.core

-- the answer `a` that the code gives to a call on the core `c`
pub record Next (c : Card) (now : Moment) (change : Change) (a : Answer) : Type 0 where
  -- "Given exactly when", with which row and detail; "the state handed back equals the state handed in"
  pub refuses : (x : Refusal) → a.reply ≡ Err x ↔ First c (call_of now change) (number_of x) (detail_of x)
  pub hands_back : (x : Refusal) → a.reply ≡ Err x → a.core ≡ c
  -- .. in all its fields, those of vacant places included
  pub hands_back_fields : (x : Refusal) → a.reply ≡ Err x → (before left : Inside) → IsCore before → IsCore left
      → card before ≡ c → card left ≡ a.core → left ≡ before
  -- accepted exactly when no row applies
  pub accepts : ((r : Report) × (a.reply ≡ Ok r)) ↔ NoRow c (call_of now change)
  pub then : (r : Report) → a.reply ≡ Ok r → Accepted c now change a r

pub record Promised (calls : List Asking) : Type 0 where
  -- the core shows the rules' card after the same calls, and its fields are that card written: there is such a core, and no other
  pub shows : made calls ≡ after (calls_of calls)
  pub fields : card (core_of (made calls)) ≡ made calls
  pub sound : IsCore (core_of (made calls))
  pub is : (c : Inside) → IsCore c → card c ≡ made calls → c ≡ core_of (after (calls_of calls))
  -- steps 4 and 5, the budgets and the limits of the card shown
  pub meaning : Meaning (made calls)
  -- demand 3 is told by these calls and their replies
  pub told : exchanges calls ≡ heard (calls_of calls)
  pub demand3 : Demand3 (calls_of calls)
  -- every VCPU on the card, with its stay: the bound and the usable budget
  pub every_vcpu : All (ItsStay (exchanges calls)) (made calls).vcpus
  -- the stored totals are the history's, and a tenant's held total at its removal is its stay's
  pub totals : Totals (calls_of calls)
  pub removal : (now : Moment) (tunnel : Tunnel) → NoRow (made calls) (call_of now (Remove tunnel))
      → Removal (calls_of calls) (call_of now (Remove tunnel)) tunnel.0
  -- and no reply depends on one
  pub no_decision : NoDecision (made calls)
  -- one call more
  pub next : (now : Moment) (change : Change) → Next (made calls) now change (turned (made calls) now change)

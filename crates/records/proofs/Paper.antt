-- Each answer of reading and its number and values on paper are one another's: the promise of `read`, by the paper's values, names one
-- answer, the one that `read_spec` gives. Assumes nothing.
use Prim.Native.Nat.{ℕ}
use mathlib.Core.Path.{◌≡◌, refl, ap, sym, ◌∙◌}
use mathlib.Core.List.{List}
use Rattle.std.specs.Prelude.{Result, Ok, Err}
use Rattle.rules.specs.Vcpu.{Description}
use Rattle.rules.specs.Change.{Change, admit, wake, block, remove, tick}
use Rattle.rules.specs.Turn.{Call}
use Rattle.turns.specs.declared.Change.{Change as Asking}
use Rattle.turns.specs.declared.Change.TheVariants.{Admit, Wake, Block, Remove, Tick}
use Rattle.turns.specs.Calls.{asked}
use Rattle.records.specs.declared.answers.Event.{Event}
use Rattle.records.specs.declared.answers.BadRecord.{BadRecord}
use Rattle.records.specs.declared.answers.BadRecord.TheVariants.{CutShort, UnknownTag, BadLength}
use Rattle.records.specs.Record.{reading}
use Rattle.records.specs.Answer.{paper_event, paper_read, bad_number, bad_detail, change_said, event_said, bad_said, read_said, read_spec}

-- a call is its time and what it asks, and a description its five numbers
pub same-call : {n m : ℕ} {a b : Change} → n ≡ m → a ≡ b → ◌≡◌ {A = Call} (record { now = n; asked = a }) (record { now = m; asked = b })
same-call e f = rw (e, f)

pub same-terms : (d : Description) {i p c u k : ℕ}
    → i ≡ d.tunnel → p ≡ d.period → c ≡ d.capacity → u ≡ d.priority → k ≡ d.kind
    → ◌≡◌ {A = Description} (record { tunnel = i; period = p; capacity = c; priority = u; kind = k }) d
same-terms d e f g h k = rw (e, f, g, h, k)

-- an event is what its own values say
asking-again : (a : Asking) → change_said (asked a) ≡ a
asking-again (Admit d) = refl
asking-again (Wake t) = refl
asking-again (Block t) = refl
asking-again (Remove t) = refl
asking-again Tick = refl

pub said-again : (e : Event) → event_said (paper_event e).now (paper_event e).asked ≡ e
said-again e = ap (λ (a : Asking). record { time = e.time; change = a }) (asking-again e.change)

-- and its values are those that it says
asked-again : (a : Change) → asked (change_said a) ≡ a
asked-again (admit d) = refl
asked-again (wake t) = refl
asked-again (block t) = refl
asked-again (remove t) = refl
asked-again tick = refl

pub values-again : (n : ℕ) (a : Change) → paper_event (event_said n a) ≡ record { now = n; asked = a }
values-again n a = same-call refl (asked-again a)

bad-again : (b : BadRecord) → bad_said (bad_number b) (bad_detail b) ≡ b
bad-again (CutShort offset) = refl
bad-again (UnknownTag offset) = refl
bad-again (BadLength offset) = refl

pub said-paper : (r : Result Event BadRecord) → read_said (paper_read r) ≡ r
said-paper (Ok e) = ap Ok (said-again e)
said-paper (Err b) = ap Err (bad-again b)

-- the paper's number and values tell the answers apart
pub same_read : (a b : Result Event BadRecord) → paper_read a ≡ paper_read b → a ≡ b
same_read a b e = sym (said-paper a) ∙ ap read_said e ∙ said-paper b

-- the one answer that the promise of `read` allows
pub read_is : (offset : ℕ) (s : List ℕ) (r : Result Event BadRecord) → paper_read r ≡ reading offset s → r ≡ read_spec offset s
unfolding read_spec
read_is offset s r e = sym (said-paper r) ∙ ap read_said e

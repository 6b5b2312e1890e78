-- For each answer of this crate the paper's number and values in each of its cases, and the paper's form for each of its forms.
-- Assumes nothing.
use Rattle.std.specs.Prelude.{ℕ, Bool, true, false, [], ◌∷◌, Result, Ok, Err}
use Rattle.model.specs.Form.{Form as PaperForm, ordinary, aligned}
use Rattle.model.specs.Share.{Share as PaperShare}
use Rattle.model.specs.Reply.{Reply, gives, refuses}
use Rattle.shares.specs.declared.answers.Refusal.{Refusal}
use Rattle.shares.specs.declared.answers.Refusal.TheVariants.{BadCount, BadTask, FallingPeriod, BadShare, NoBudget, BadLength, NotAligned}
use Rattle.shares.specs.declared.answers.Share.{Share}
use Rattle.shares.specs.declared.form.Form.{Form}
use Rattle.shares.specs.declared.form.Form.TheVariants.{Ordinary, Aligned}

-- the form that is asked for
abbrev pub paper_form : Form → PaperForm
paper_form Ordinary = ordinary
paper_form Aligned = aligned

-- the number of a row of the table, and its detail
abbrev pub number_of : Refusal → ℕ
number_of BadCount = 30
number_of (BadTask place) = 31
number_of (FallingPeriod place) = 32
number_of BadShare = 33
number_of NoBudget = 34
number_of BadLength = 35
number_of NotAligned = 36

abbrev pub detail_of : Refusal → ℕ
detail_of BadCount = 0
detail_of (BadTask place) = place
detail_of (FallingPeriod place) = place
detail_of BadShare = 0
detail_of NoBudget = 0
detail_of BadLength = 0
detail_of NotAligned = 0

abbrev pub paper_refusal : Refusal → Reply
paper_refusal r = refuses (number_of r) (detail_of r)

-- the paper's (P, B)
abbrev pub paper_share : Share → PaperShare
paper_share s = record { period = s.period; budget = s.budget }

-- a number of ticks
abbrev pub paper_ticks : Result ℕ Refusal → Reply
paper_ticks (Ok n) = gives (n ∷ [])
paper_ticks (Err r) = paper_refusal r

-- passes is 1, doesn't is 0
abbrev pub paper_verdict : Result Bool Refusal → Reply
paper_verdict (Ok true) = gives (1 ∷ [])
paper_verdict (Ok false) = gives (0 ∷ [])
paper_verdict (Err r) = paper_refusal r

-- the least budget (a name of its own, as document 01 has an answer of its own)
abbrev pub paper_budget : Result ℕ Refusal → Reply
paper_budget (Ok b) = gives (b ∷ [])
paper_budget (Err r) = paper_refusal r

-- the interface (P, B)
abbrev pub paper_interface : Result Share Refusal → Reply
paper_interface (Ok s) = gives (s.period ∷ s.budget ∷ [])
paper_interface (Err r) = paper_refusal r

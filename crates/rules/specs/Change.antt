-- Document 01, step 3: admit, wake, block or remove. A polling VCPU that is left not runnable loses its ticks (02, No. 1), and one that is
-- removed is remembered (02, No. 3).
-- Assumes nothing.
use Rattle.std.specs.Prelude.{ℕ, Bool, true, false, cond, not, List, [], ◌∷◌, ◌++◌}
use Rattle.rules.specs.Lists.{keep}
use Rattle.rules.specs.Vcpu.{Description, Vcpu, leaves, admitted, more_urgent, named}
use Rattle.rules.specs.Remember.{Remembered, left_by, kept}
use Rattle.rules.specs.Card.{find, to_named}

-- what a call asks for; each but the tick names an identifier
pub data Change : Type 0 where
  admit : Description → Change
  wake : ℕ → Change
  block : ℕ → Change
  remove : ℕ → Change
  tick : Change

-- A newcomer's place in the list is before the first that is less urgent. No rule depends on the list's order: what proofs/Budgets,
-- Marks, Meaning and Rows show of the five steps and of the refusals speaks of who is among the VCPUs, never of their places.
abbrev pub placed : Vcpu → List Vcpu → List Vcpu
placed v [] = v ∷ []
placed v (w ∷ ws) = cond (more_urgent v.terms w.terms) (v ∷ w ∷ ws) (w ∷ placed v ws)

-- Waking a runnable VCPU or blocking one that isn't changes nothing, on the cards that calls make: a polling VCPU that is not runnable has
-- no usable ticks there (`polling-waits` of Meaning).
abbrev pub set_runnable : Bool → Vcpu → Vcpu
set_runnable runnable v =
    record {
      terms = v.terms;
      runnable = runnable;
      usable = leaves v.terms runnable v.usable;
      ended = v.ended;
      pending = v.pending;
      boundary = v.boundary;
      pending_total = v.pending_total;
      held_total = v.held_total;
    }

abbrev pub change : ℕ → Change → List Vcpu → List Vcpu
change now (admit d) vs = placed (admitted now d) vs
change now (wake tunnel) vs = to_named tunnel (set_runnable true) vs
change now (block tunnel) vs = to_named tunnel (set_runnable false) vs
change now (remove tunnel) vs = keep (λ v. not (named tunnel v)) vs
change now tick vs = vs

-- what the VCPU removed leaves behind; `vs` are the VCPUs after steps 1 and 2
abbrev pub leaving : Change → List Vcpu → List Remembered
leaving (admit d) vs = []
leaving (wake tunnel) vs = []
leaving (block tunnel) vs = []
leaving (remove tunnel) vs = left_by (find tunnel vs)
leaving tick vs = []

-- those whose time has come are remembered no longer; no rule depends on their order
abbrev pub remember : ℕ → Change → List Vcpu → List Remembered → List Remembered
remember now asked vs rs = kept now rs ++ leaving asked vs

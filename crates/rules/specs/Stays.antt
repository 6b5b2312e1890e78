-- Stays, read off what a host hears: from an accepted admit to the accepted remove of the same identifier; and the ticks that a stay
-- held. Assumes nothing.
use Rattle.std.specs.Prelude.{ℕ, ◌+◌, Bool, true, false, cond, ◌&&◌, List, [], ◌∷◌, map, leb, ltb, eqb, length, take, drop}
use Rattle.std.proofs.Math.Option.{Option, none, some}
use Rattle.rules.specs.Lists.{count}
use Rattle.rules.specs.Vcpu.{Description}
use Rattle.rules.specs.Change.{Change, admit, wake, block, remove, tick}
use Rattle.rules.specs.History.{Exchange, told, holds, is_idle}

-- admitted with these terms at `from`, removed at `until` (none while it lasts)
pub record Stay : Type 0 where
  pub terms : Description
  pub from : ℕ
  pub until : Option ℕ

abbrev pub lasts : Option ℕ → Bool
lasts none = true
lasts (some t) = false

-- it lasts, and has this identifier
abbrev pub lasts_as : ℕ → Stay → Bool
lasts_as tunnel s = lasts s.until && eqb s.terms.tunnel tunnel

abbrev pub with_end : ℕ → ℕ → Stay → Stay
with_end now tunnel s =
    record { terms = s.terms; from = s.from; until = cond (lasts_as tunnel s) (some now) s.until }

-- an admit begins a stay, a remove ends one
abbrev pub change_stays : ℕ → Change → List Stay → List Stay
change_stays now (admit d) ss = record { terms = d; from = now; until = none } ∷ ss
change_stays now (wake tunnel) ss = ss
change_stays now (block tunnel) ss = ss
change_stays now (remove tunnel) ss = map (with_end now tunnel) ss
change_stays now tick ss = ss

-- all stays so far, ended ones included
abbrev pub stays : List Exchange → List Stay
stays [] = []
stays (x ∷ before) =
    told x.reply (λ r. change_stays x.call.now x.call.asked (stays before)) (stays before)

abbrev pub before_end : Option ℕ → ℕ → Bool
before_end none at = true
before_end (some until) at = ltb at until

-- the tick from the moment `at` to the next is this stay's
abbrev pub owns : Stay → Option ℕ → ℕ → Bool
owns s holder at = holds s.terms.tunnel holder && leb s.from at && before_end s.until at

-- for each tick of the past, whether this stay held it; a tick begins at the moment that is the number of ticks before it
abbrev pub held : Stay → List (Option ℕ) → List Bool
held s [] = []
held s (holder ∷ before) = owns s holder (length before) ∷ held s before

abbrev pub held_ticks : List Bool → ℕ
held_ticks = count (λ b. b)

-- a window: `long` ticks in a row, with `before` ticks between it and the last accepted call
abbrev pub window : ℕ → ℕ → List Bool → List Bool
window long before ticks = take long (drop before ticks)

-- a fact of each tick of the past: of its holder and the moment at which it begins
abbrev pub EachTick : (Option ℕ → ℕ → Type 0) → List (Option ℕ) → Type 0
EachTick P [] = Unit {0}
EachTick P (holder ∷ before) = P holder (length before) × EachTick P before

-- how many a tick belongs to: stays, or idle
abbrev pub owners : List Stay → Option ℕ → ℕ → ℕ
owners ss holder at = cond (is_idle holder) 1 0 + count (λ s. owns s holder at) ss

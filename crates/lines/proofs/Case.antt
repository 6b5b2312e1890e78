-- Document 01's whole case, as it is read: the calls of its nine records, and its tenth, one byte, which begins behind the 137 bytes of
-- these. What each call gives is in proofs/Case of rules. Assumes nothing.
use Prim.Native.Nat.{ℕ}
use mathlib.Core.Path.{◌≡◌, refl, ap}
use mathlib.Core.List.{List, [], ◌∷◌, ◌++◌}
use Rattle.std.specs.Prelude.{Some}
use Rattle.units.specs.Units.{moment, amount, tunnel}
use Rattle.turns.specs.declared.Change.{Change}
use Rattle.turns.specs.declared.Change.TheVariants.{Admit, Wake, Block, Remove, Tick}
use Rattle.turns.specs.State.{Asking}
use Rattle.records.specs.declared.answers.BadRecord.TheVariants.{CutShort}
use Rattle.records.specs.Record.{known, payload_of, payload, call, reading}
use Rattle.records.specs.Answer.{read_spec}
use Rattle.records.specs.Encode.{head, record_of, size_of}
use Rattle.text.specs.Text.{figures}
use Rattle.lines.specs.Asked.{Asked, asks, asked_after, asked, sent, last_line}

abbrev at : ℕ → Change → Asking
at now change = record { now = moment now; change = change }

abbrev admits : ℕ → ℕ → ℕ → ℕ → Change
admits id period capacity priority =
    Admit (record { tunnel = tunnel id; period = amount period; capacity = amount capacity; priority = priority; kind = 0 })

-- the latest first
abbrev calls : List Asking
calls =
    at 11 (Remove (tunnel 65537))
    ∷ at 11 (Block (tunnel 65793))
    ∷ at 10 Tick
    ∷ at 11 Tick
    ∷ at 3 Tick
    ∷ at 0 (Wake (tunnel 257))
    ∷ at 0 (Wake (tunnel 65793))
    ∷ at 0 (admits 257 8 8 2)
    ∷ at 0 (admits 65793 10 3 1)
    ∷ []

-- "one byte, 5, then the end"; its line is `no 20 137`
pub case : asked (sent calls ++ (5 ∷ [])) ≡ record { calls = calls; refusal = Some (CutShort 137) }
unfolding asked_after asks read_spec reading known payload_of payload call size_of record_of head
case = refl

pub line : last_line (asked (sent calls ++ (5 ∷ []))).refusal ≡ 110 ∷ 111 ∷ 32 ∷ 50 ∷ 48 ∷ 32 ∷ 49 ∷ 51 ∷ 55 ∷ 10 ∷ []
unfolding figures
line = ap (λ (a : Asked). last_line a.refusal) case

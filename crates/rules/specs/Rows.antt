-- Document 01, "Reply numbers", rows 1 to 8, with rows 9 to 12 of document 02, as plain facts: where each applies, and that the first from
-- the top that does is given.
-- Proved of every call, and of every card on which no identifier is remembered twice, in proofs/Rows. Assumes nothing.
use Rattle.std.specs.Prelude.{ℕ, ◌+◌, ◌≤◌, ◌<◌, ◌≡◌, List, [], ◌∷◌, ◌⊎◌, ◌↔◌, ltb, length}
use Rattle.std.proofs.Math.Option.{some}
use Rattle.rules.specs.Limits.{largest_time, largest_tunnel, largest_period, most_vcpus}
use Rattle.rules.specs.Lists.{count, Among}
use Rattle.rules.specs.Vcpu.{Description}
use Rattle.rules.specs.Card.{Card}
use Rattle.rules.specs.Change.{Change, admit, wake, block, remove}
use Rattle.rules.specs.Refuse.{Refusal}
use Rattle.rules.specs.Turn.{Call, ok, refused, turn, accepted, reported}
use Rattle.rules.specs.Meaning.{Sporadic, Deferrable, Polling, OnTheCard, RememberedWith}

-- an admit of this identifier
abbrev pub AdmitOf : Change → ℕ → Type 0
AdmitOf asked tunnel = (d : Description) × (asked ≡ admit d) × (d.tunnel ≡ tunnel)

abbrev pub WakeBlockRemoveOf : Change → ℕ → Type 0
WakeBlockRemoveOf asked tunnel = (asked ≡ wake tunnel) ⊎ (asked ≡ block tunnel) ⊎ (asked ≡ remove tunnel)

-- the row with this number applies, and has this detail
pub data Row (c : Card) (call : Call) : ℕ → ℕ → Type 0 where
  -- "time above the largest"
  row_1 : largest_time < call.now → Row c call 1 0
  -- "time below `last`"
  row_2 : call.now < c.last → Row c call 2 0
  -- "there is a timer and the time is later than it"; the detail is the timer
  row_3 : (t : ℕ) → c.timer ≡ some t → t < call.now → Row c call 3 t
  -- "identifier above 24 bits"
  row_4 : (tunnel : ℕ) → AdmitOf call.asked tunnel ⊎ WakeBlockRemoveOf call.asked tunnel → largest_tunnel < tunnel → Row c call 4 0
  -- of admit: "5 for the period, 11 for a capacity of 0, 12 for a capacity above the period"
  row_5 : (d : Description) → call.asked ≡ admit d → (d.period < 1) ⊎ (largest_period < d.period) → Row c call 5 0
  row_11 : (d : Description) → call.asked ≡ admit d → d.capacity ≡ 0 → Row c call 11 0
  row_12 : (d : Description) → call.asked ≡ admit d → d.period < d.capacity → Row c call 12 0
  -- "10, unknown kind, after 5"
  row_10 : (d : Description) → call.asked ≡ admit d → (Sporadic d → ⊥) → (Deferrable d → ⊥) → (Polling d → ⊥) → Row c call 10 0
  -- "admit: identifier is on the card"
  row_6 : (d : Description) → call.asked ≡ admit d → OnTheCard c.vcpus d.tunnel → Row c call 6 0
  -- "9, identifier is remembered, with that time as the detail", "judged at the call's time": one whose time has come is not
  row_9 : (d : Description) (time : ℕ) → call.asked ≡ admit d → RememberedWith c.remembered d.tunnel time → call.now < time
      → Row c call 9 time
  -- "wake, block, remove: identifier is not on the card"
  row_7 : (tunnel : ℕ) → WakeBlockRemoveOf call.asked tunnel → (OnTheCard c.vcpus tunnel → ⊥) → Row c call 7 0
  -- "admit: 32 VCPUs are on the card"; "8 now counts remembered places", and is judged at the call's time
  row_8 : (d : Description) → call.asked ≡ admit d
      → most_vcpus ≤ length c.vcpus + count (λ r. ltb call.now r.time) c.remembered → Row c call 8 0

-- the rows from the top: "11 then 12, straight after 5 and before 10"; 9 "after 6"
abbrev pub order : List ℕ
order = 1 ∷ 2 ∷ 3 ∷ 4 ∷ 5 ∷ 11 ∷ 12 ∷ 10 ∷ 6 ∷ 9 ∷ 7 ∷ 8 ∷ []

-- the row n stands above the row m
abbrev pub Higher : ℕ → ℕ → List ℕ → Type 0
Higher n m [] = ⊥
Higher n m (top ∷ rest) = ((n ≡ top) × Among m rest) ⊎ Higher n m rest

-- "the first from the top that applies is given"
pub record First (c : Card) (call : Call) (number detail : ℕ) : Type 0 where
  pub applies : Row c call number detail
  pub none_above : (n d : ℕ) → Higher n number order → Row c call n d → ⊥

abbrev pub NoRow : Card → Call → Type 0
NoRow c call = (number detail : ℕ) → Row c call number detail → ⊥

-- "Given exactly when", and "the state handed back equals the state handed in"
pub record Table (c : Card) (call : Call) : Type 0 where
  pub refuses : (number detail : ℕ)
      → (turn c call).reply ≡ refused (record { number = number; detail = detail }) ↔ First c call number detail
  pub hands_back : (r : Refusal) → (turn c call).reply ≡ refused r → (turn c call).card ≡ c
  pub accepts : (turn c call).reply ≡ ok (reported c call) ↔ NoRow c call
  -- then the card handed on is that after the five steps, and its time is the call's
  pub hands_on : NoRow c call → (turn c call).card ≡ accepted c call
  pub at-now : NoRow c call → (turn c call).card.last ≡ call.now

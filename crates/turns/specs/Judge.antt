-- The reply numbers as the code judges them, from the place of the VCPU that the call names: a row's refusal, or none.
-- Assumes nothing.
use Rattle.std.specs.Prelude.{ℕ, ◌+◌, Bool, cond, not, List, leb, ltb, eqb, length, is_some, is_none, Result, Ok, Err}
use Rattle.std.specs.Prelude.{Option as Opt, Some, None}
use Rattle.std.proofs.Math.Option.{Option, none, some}
use Rattle.units.specs.Units.{moment}
use Rattle.units.specs.declared.Moment.{Moment}
use Rattle.rules.specs.Limits.{largest_time, largest_tunnel, largest_kind, most_vcpus, in_range}
use Rattle.rules.specs.Remember.{Remembered, kept, time_of}
use Rattle.turns.specs.declared.Refusal.{Refusal}
use Rattle.turns.specs.declared.Refusal.TheVariants.{BadTime, BeforeLast, PastTimer, BadTunnel, BadPeriod, OnCard}
use Rattle.turns.specs.declared.Refusal.TheVariants.{NotOnCard, Full, BadKind, NoCapacity, CapacityAbovePeriod}
use Rattle.turns.specs.declared.Refusal.TheVariants.{Remembered as IsRemembered}
use Rattle.turns.specs.declared.Description.{Description}
use Rattle.turns.specs.declared.Roster.{Roster}
use Rattle.turns.specs.declared.Change.{Change}
use Rattle.turns.specs.declared.Change.TheVariants.{Admit, Wake, Block, Remove, Tick}
use Rattle.turns.specs.Written.{memories}

abbrev pub Verdict : Type 0
Verdict = Result Unit Refusal

abbrev pub passes : Verdict
passes = Ok tt

abbrev pub verdict_row : Bool → Refusal → Verdict → Verdict
verdict_row applies refusal below = cond applies (Err refusal) below

-- the rows of an admit that look at what it asks for, and those below them
unfoldable pub judge_terms : Description → Verdict → Verdict
judge_terms d below =
    verdict_row (ltb largest_tunnel d.tunnel.0) BadTunnel
    (verdict_row (not (in_range d.period.0)) BadPeriod
    (verdict_row (eqb d.capacity.0 0) NoCapacity
    (verdict_row (ltb d.period.0 d.capacity.0) CapacityAbovePeriod
    (verdict_row (ltb largest_kind d.kind) BadKind
    below))))

-- row 9
abbrev pub remembered_row : Option ℕ → Verdict → Verdict
remembered_row none below = below
remembered_row (some time) below = Err (IsRemembered (moment time))

-- .. and those that look at its place, among `n` VCPUs and those who are remembered at the call's time
unfoldable pub judge_place : Opt ℕ → ℕ → List Remembered → ℕ → Verdict
judge_place at n rs t =
    verdict_row (is_some at) OnCard
    (remembered_row (time_of t rs)
    (verdict_row (leb most_vcpus (n + length rs)) Full
    passes))

abbrev pub judge_admit : Opt ℕ → ℕ → List Remembered → Description → Verdict
judge_admit at n rs d = judge_terms d (judge_place at n rs d.tunnel.0)

unfoldable pub judge_naming : Opt ℕ → ℕ → Verdict
judge_naming at t = verdict_row (ltb largest_tunnel t) BadTunnel (verdict_row (is_none at) NotOnCard passes)

abbrev pub judge_call : Opt ℕ → ℕ → List Remembered → Change → Verdict
judge_call at n rs (Admit d) = judge_admit at n rs d
judge_call at n rs (Wake t) = judge_naming at t.0
judge_call at n rs (Block t) = judge_naming at t.0
judge_call at n rs (Remove t) = judge_naming at t.0
judge_call at n rs Tick = passes

-- row 3
abbrev pub late_row : Opt Moment → Moment → Verdict → Verdict
late_row None now below = below
late_row (Some t) now below = verdict_row (ltb t.0 now.0) (PastTimer t) below

unfoldable pub judge : Moment → Opt Moment → Opt ℕ → Roster → Moment → Change → Verdict
judge last timer at x now change =
    verdict_row (ltb largest_time now.0) BadTime
    (verdict_row (ltb now.0 last.0) BeforeLast
    (late_row timer now (judge_call at x.n (kept now.0 (memories x.memory)) change)))

-- Cited by `answers` alone: a go of the program, which answers lines of a part as long as there is room for an answer. What a run is
-- does not rest on it. Assumes nothing.
use Rattle.std.specs.Prelude.{ℕ, ◌≤◌, ◌≡◌, Bool, true, false, List, [], length, take, drop}
use Rattle.queries.specs.Text.{longest}
use Rattle.sizing.specs.declared.Go.{Go}
use Rattle.sizing.specs.Program.{further, serve_of}

-- of the part s, with `out` the room as it was left: first what the go says, with its answers in front of the room, and then the rest
-- give what all of s gives; the go ended where nothing more can be served, or because the room is full
pub record Went (long : Bool) (s out : List ℕ) (go : Go) : Type 0 where
  pub within : (go.used ≤ length s) × (go.written ≤ length out)
  pub in_turn : serve_of long s
      ≡ further (record { long = go.long; used = go.used; text = take go.written out }) (serve_of go.long (drop go.used s))
  pub rests-there : go.full ≡ false → serve_of go.long (drop go.used s) ≡ record { long = go.long; used = 0; text = [] }
  pub moves : longest ≤ length out → go.full ≡ true → 1 ≤ go.used

-- The input as it comes, in parts: what one part leaves waits in front of the next, and has its offset. Assumes nothing.
use Rattle.std.specs.Prelude.{ℕ, ◌+◌, true, false, cond, List, [], ◌∷◌, ◌++◌, drop, None, Some}
use Rattle.rules.specs.Card.{Card}
use Rattle.lines.specs.Serve.{Run, stopped, serve_of}

-- serving, and then the rest; nothing more where the input was refused
abbrev pub onward : Run → Run → Run
onward r rest =
    cond (stopped r) r
    (record { core = rest.core; used = r.used + rest.used; lines = r.lines ++ rest.lines; refused = rest.refused })

-- bytes that came together, few, many or none, and the room for lines that there was
pub record Part : Type 0 where
  pub bytes : List ℕ
  pub room : ℕ

abbrev pub one_piece : List Part → List ℕ
one_piece [] = []
one_piece (p ∷ ps) = p.bytes ++ one_piece ps

-- a part is served with what was left before it, which begins at this offset; then the end of the input
unfoldable pub in_parts : Card → ℕ → List ℕ → List Part → Run
in_parts core offset held [] = serve_of core offset held true None
in_parts core offset held (p ∷ ps) =
    let s : List ℕ = held ++ p.bytes in
    let r : Run = serve_of core offset s false (Some p.room) in
    onward r (in_parts r.core (offset + r.used) (drop r.used s) ps)

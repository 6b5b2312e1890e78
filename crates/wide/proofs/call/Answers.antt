-- `call` lends the part that was filled, which lies in the room of a longest line. Assumes nothing.
use Prim.Native.Nat.{ℕ, ◌≤◌}
use mathlib.Core.Path.{◌≡◌, ap, sym}
use mathlib.Core.List.{List}
use native.Mathlib.Omega.{arith}
use lib.ListN.{length, drop, replicate, length-append}
use lib.Seq.{length-take-le}
use Rattle.text.specs.Text.{over}
use Rattle.lines.specs.Text.{line_in, longest}
use Rattle.wide.proofs.call.Goals as goal

filled : {r : ℕ} (text before : List ℕ) {after : List ℕ} → (r ≡ length text) × (after ≡ over text before) → r ≤ length after
filled text before (h, g) = omega (arith, h, ap length g, length-append text (drop (length text) before))

abbrev room : List ℕ
room = replicate longest 0

pub slice_bounds-out-end : goal.slice_bounds-out-end
slice_bounds-out-end g c = filled (line_in c.map_err-reply.result room) room c.write_line-written.ensures

pub slice_bounds-write_all-end : goal.slice_bounds-write_all-end
slice_bounds-write_all-end g c =
    sym (length-take-le _ _ (filled (line_in c.map_err-reply.result room) room c.write_line-written.ensures))

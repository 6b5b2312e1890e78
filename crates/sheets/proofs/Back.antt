-- There and back: what was read is written in the same bytes, what was written reads back the same tasks, and the bytes behind it stay.
-- Assumes nothing.
use Prim.Native.Nat.{ℕ, ◌≤◌, ◌<◌}
use mathlib.Core.Path.{◌≡◌, refl, ap, sym, ◌∙◌}
use mathlib.Core.Bool.{Bool, cond}
use mathlib.Core.List.{List, [], ◌∷◌}
use native.Mathlib.Omega.{arith}
use lib.ListN.{length, take, drop, length-take}
use lib.Seq.{take-append_seam, drop-append_seam}
use borrow.Author.Tests.{lt-ltb, le-ltb}
use Rattle.std.specs.Prelude.{Result, Ok, Err}
use Rattle.text.specs.Text.{over}
use Rattle.model.specs.Asked.{Work}
use Rattle.model.specs.Reply.{gives, refuses}
use Rattle.model.specs.Form.{Form}
use Rattle.model.specs.Rows.{row, tasks_rows, check_reply, least_reply, best_reply}
use Rattle.sheets.specs.declared.answers.BadLine.{BadLine}
use Rattle.sheets.specs.declared.sheet.Sheet.TheInside.{Inside}
use Rattle.sheets.specs.Kept.{work_of, ValidSheet}
use Rattle.sheets.specs.Sheet.{sheet, bad, no_tasks, read_of}
use Rattle.sheets.specs.Meaning.{Holds, FirstBad}
use Rattle.sheets.specs.Paper.{text_of, line_number, line_detail, paper_read, write_reply, written_in}
use Rattle.sheets.proofs.Meaning.{same_bytes, same-sheet, reads-bad}
use Rattle.sheets.proofs.Puts.{small-take}

-- the tasks of a sheet of the code are such that a sheet can hold
pub valid-holds : (s : Inside) → ValidSheet s → Holds (work_of s)
valid-holds s v = record {
  paired = omega (arith, v.sized_periods, v.sized_costs, length-take s.count s.periods, length-take s.count s.costs);
  few = omega (arith, v.few, length-take s.count s.periods);
  small-periods = small-take s.periods s.count v.small-periods;
  small-costs = small-take s.costs s.count v.small-costs;
}

-- so its text reads back the same tasks
pub reads-back : (s : Inside) → ValidSheet s → read_of (text_of (work_of s)) ≡ sheet (work_of s)
reads-back s v = same-sheet (work_of s) (valid-holds s v)

-- and the text of a sheet that was read is what was read
pub writes_back : (bytes : List ℕ) (r : Result Work BadLine) (w : Work) → paper_read r ≡ read_of bytes → r ≡ Ok w → text_of w ≡ bytes
writes_back bytes r w e good = same_bytes bytes w (sym e ∙ ap paper_read good)

-- what `write` leaves: the text at the front where it has room, everything behind it as it was, and all of it where it has no room
module _ (text area : List ℕ) where
  left-room : length text ≤ length area → written_in text area ≡ over text area
  unfolding written_in
  left-room room = ap (λ (t : Bool). cond t area (over text area)) (le-ltb (length area) (length text) room)

  pub front-is-text : length text ≤ length area → take (length text) (written_in text area) ≡ text
  front-is-text room = ap (take (length text)) (left-room room) ∙ take-append_seam text (drop (length text) area)

  pub behind-is-left : length text ≤ length area → drop (length text) (written_in text area) ≡ drop (length text) area
  behind-is-left room = ap (drop (length text)) (left-room room) ∙ drop-append_seam text (drop (length text) area)

  pub told-room : length text ≤ length area → write_reply text area ≡ gives (length text ∷ [])
  unfolding write_reply
  told-room room = ap (λ (t : Bool). row t 40 0 (gives (length text ∷ []))) (le-ltb (length area) (length text) room)

  pub told-no-room : length area < length text → write_reply text area ≡ refuses 40 0
  unfolding write_reply
  told-no-room full = ap (λ (t : Bool). row t 40 0 (gives (length text ∷ []))) (lt-ltb (length area) (length text) full)

  pub all-is-left : length area < length text → written_in text area ≡ area
  unfolding written_in
  all-is-left full = ap (λ (t : Bool). cond t area (over text area)) (lt-ltb (length area) (length text) full)

-- every sheet of the code: reading what `write` wrote gives the same tasks
pub reads-written : (s : Inside) (area : List ℕ) → ValidSheet s → length (text_of (work_of s)) ≤ length area
    → read_of (take (length (text_of (work_of s))) (written_in (text_of (work_of s)) area)) ≡ sheet (work_of s)
reads-written s area v room = ap read_of (front-is-text (text_of (work_of s)) area room) ∙ reads-back s v

-- "37 first bad line or a 17th, with its number"
pub told_37 : (bytes : List ℕ) (r : Result Work BadLine) (k : ℕ) → paper_read r ≡ read_of bytes → FirstBad bytes k
    → (q : BadLine) × (r ≡ Err q) × (line_number q ≡ 37) × (line_detail q ≡ k)
told_37 bytes r k e f = go r (e ∙ (reads-bad bytes k).1 f)
  where
    go : (l : Result Work BadLine) → paper_read l ≡ bad k → (q : BadLine) × (l ≡ Err q) × (line_number q ≡ 37) × (line_detail q ≡ k)
    go (Ok w) h = cc
    go (Err q) h = (q, refl, refl, cc)

-- who goes on with the sheet of no tasks, where one was refused, is told 30 by each question
pub none_told_30 : (form : Form) (p b : ℕ)
    → (check_reply form no_tasks.periods no_tasks.costs p b ≡ refuses 30 0)
    × (least_reply form no_tasks.periods no_tasks.costs p ≡ refuses 30 0)
    × (best_reply form no_tasks.periods no_tasks.costs p ≡ refuses 30 0)
unfolding check_reply least_reply best_reply tasks_rows
none_told_30 form p b = (refl, refl, refl)

-- what is gone on with by who does not look: the sheet that was read, or, where it was refused, that of no tasks
abbrev pub gone_on : Result Work BadLine → Work
gone_on (Ok w) = w
gone_on (Err q) = no_tasks

-- of a refused reading that is told 30
pub refused_told_30 : (bytes : List ℕ) (r : Result Work BadLine) (k : ℕ) → paper_read r ≡ read_of bytes → FirstBad bytes k
    → (form : Form) (p b : ℕ)
    → (check_reply form (gone_on r).periods (gone_on r).costs p b ≡ refuses 30 0)
    × (least_reply form (gone_on r).periods (gone_on r).costs p ≡ refuses 30 0)
    × (best_reply form (gone_on r).periods (gone_on r).costs p ≡ refuses 30 0)
refused_told_30 bytes r k e f form p b = rw ((told_37 bytes r k e f).1) (none_told_30 form p b)

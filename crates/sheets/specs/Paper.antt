-- The tasks of a sheet as text, and the answers of the code as the paper's. Assumes nothing.
use Rattle.std.specs.Prelude.{ℕ, cond, List, [], ◌∷◌, ltb, length, Result, Ok, Err}
use Rattle.text.specs.Text.{over}
use Rattle.model.specs.Asked.{Work}
use Rattle.model.specs.Rows.{row}
use Rattle.model.specs.Reply.{Reply, gives, refuses}
use Rattle.sheets.specs.declared.answers.BadLine.{BadLine}
use Rattle.sheets.specs.declared.answers.NoRoom.{NoRoom}
use Rattle.sheets.specs.Sheet.{Read, sheet, bad, written}

-- the text of the tasks
abbrev pub text_of : Work → List ℕ
text_of w = written w.periods w.costs

-- "37 first bad line or a 17th, with its number"
abbrev pub line_number : BadLine → ℕ
line_number r = 37

abbrev pub line_detail : BadLine → ℕ
line_detail r = r.0

-- "40 no room to write"
abbrev pub room_number : NoRoom → ℕ
room_number r = 40

abbrev pub room_detail : NoRoom → ℕ
room_detail r = 0

-- what was read
abbrev pub paper_read : Result Work BadLine → Read
paper_read (Ok w) = sheet w
paper_read (Err r) = bad (line_detail r)

-- the number of bytes that were put
abbrev pub paper_writing : Result ℕ NoRoom → Reply
paper_writing (Ok n) = gives (n ∷ [])
paper_writing (Err r) = refuses (room_number r) (room_detail r)

-- "40 no room to write, .., the area left as it was"; bytes behind the text are left too
unfoldable pub write_reply : List ℕ → List ℕ → Reply
write_reply text area = row (ltb (length area) (length text)) 40 0 (gives (length text ∷ []))

unfoldable pub written_in : List ℕ → List ℕ → List ℕ
written_in text area = cond (ltb (length area) (length text)) area (over text area)

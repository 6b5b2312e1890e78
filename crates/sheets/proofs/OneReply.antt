-- Any two replies that the promise of a public function of `sheets` allows are equal, the bytes written included (`OneReply` of crate
-- promise): a sheet is its tasks, and the paper's number and values tell the answers apart. Assumes nothing.
use Prim.Native.Nat.{ℕ}
use mathlib.Core.Path.{◌≡◌, refl, ap, sym, ◌∙◌}
use Rattle.std.specs.Prelude.{Result, Ok, Err}
use Rattle.promise.specs.OneReply.{OneReply, OneReplyAndBytes}
use Rattle.model.specs.Asked.{Work}
use Rattle.shares.proofs.OneReply.{same_verdict, same-budget, same_interface}
use Rattle.sheets.specs.declared.answers.BadLine.{BadLine}
use Rattle.sheets.specs.declared.answers.NoRoom.{NoRoom}
use Rattle.sheets.specs.declared.sheet.Sheet.TheInside.{Inside}
use Rattle.sheets.specs.Kept.{work_of, ValidSheet, filled, whole_sheet}
use Rattle.sheets.specs.Paper.{paper_read, paper_writing}
use Rattle.sheets.proofs.answers.BadLine.number.Kinds as line_number
use Rattle.sheets.proofs.answers.BadLine.number.Reads as line-number-promise
use Rattle.sheets.proofs.answers.BadLine.detail.Kinds as line_detail
use Rattle.sheets.proofs.answers.BadLine.detail.Reads as line-detail-promise
use Rattle.sheets.proofs.answers.NoRoom.number.Kinds as room_number
use Rattle.sheets.proofs.answers.NoRoom.number.Reads as room-number-promise
use Rattle.sheets.proofs.answers.NoRoom.detail.Kinds as room_detail
use Rattle.sheets.proofs.answers.NoRoom.detail.Reads as room-detail-promise
use Rattle.sheets.proofs.sheet.Sheet.empty.Kinds as empty
use Rattle.sheets.proofs.sheet.Sheet.empty.Reads as empty-promise
use Rattle.sheets.proofs.sheet.Sheet.read.Kinds as read
use Rattle.sheets.proofs.sheet.Sheet.read.Reads as read-promise
use Rattle.sheets.proofs.sheet.Sheet.count.Kinds as count
use Rattle.sheets.proofs.sheet.Sheet.count.Reads as count-promise
use Rattle.sheets.proofs.sheet.Sheet.period.Kinds as period
use Rattle.sheets.proofs.sheet.Sheet.period.Reads as period-promise
use Rattle.sheets.proofs.sheet.Sheet.cost.Kinds as cost
use Rattle.sheets.proofs.sheet.Sheet.cost.Reads as cost-promise
use Rattle.sheets.proofs.sheet.Sheet.check.Kinds as check
use Rattle.sheets.proofs.sheet.Sheet.check.Reads as check-promise
use Rattle.sheets.proofs.sheet.Sheet.least.Kinds as least
use Rattle.sheets.proofs.sheet.Sheet.least.Reads as least-promise
use Rattle.sheets.proofs.sheet.Sheet.best.Kinds as best
use Rattle.sheets.proofs.sheet.Sheet.best.Reads as best-promise
use Rattle.sheets.proofs.sheet.Sheet.write.Kinds as write
use Rattle.sheets.proofs.sheet.Sheet.write.Reads as write-promise

-- the tasks tell the fields of sheets apart
pub one-sheet : (s t : Inside) → ValidSheet s → ValidSheet t → work_of s ≡ work_of t → s ≡ t
one-sheet s t v w e = sym (whole_sheet s v) ∙ ap filled e ∙ whole_sheet t w

pub same-reading : (a b : Result Work BadLine) → paper_read a ≡ paper_read b → a ≡ b
same-reading (Ok s) (Ok t) e = cc
same-reading (Ok s) (Err r) e = cc
same-reading (Err q) (Ok t) e = cc
same-reading (Err q) (Err r) e = ap (λ (n : ℕ). refused n) (cc)
  where
    refused : ℕ → Result Work BadLine
    refused n = Err (record { 0 = n })

pub same_writing : (a b : Result ℕ NoRoom) → paper_writing a ≡ paper_writing b → a ≡ b
same_writing (Ok m) (Ok n) e = cc
same_writing (Ok m) (Err s) e = cc
same_writing (Err r) (Ok n) e = cc
same_writing (Err r) (Err s) e = refl

pub line-number-one : OneReply 0 line_number.ps line_number.r line-number-promise.Post
line-number-one κs args a b x y p q = p ∙ sym q

pub line-detail-one : OneReply 0 line_detail.ps line_detail.r line-detail-promise.Post
line-detail-one κs args a b x y p q = p ∙ sym q

pub room-number-one : OneReply 0 room_number.ps room_number.r room-number-promise.Post
room-number-one κs args a b x y p q = p ∙ sym q

pub room-detail-one : OneReply 0 room_detail.ps room_detail.r room-detail-promise.Post
room-detail-one κs args a b x y p q = p ∙ sym q

pub empty-one : OneReply 0 empty.ps empty.r empty-promise.Post
empty-one κs args a b x y p q = p ∙ sym q

pub read_one : OneReply 1 read.ps read.r read-promise.Post
read_one κs args a b x y p q = same-reading a b (p ∙ sym q)

pub count-one : OneReply 1 count.ps count.r count-promise.Post
count-one κs args a b x y p q = p.0 ∙ sym q.0

pub period-one : OneReply 1 period.ps period.r period-promise.Post
period-one κs args a b x y p q = p ∙ sym q

pub cost-one : OneReply 1 cost.ps cost.r cost-promise.Post
cost-one κs args a b x y p q = p ∙ sym q

-- the answers of `shares`, handed on
pub check-one : OneReply 1 check.ps check.r check-promise.Post
check-one κs args a b x y p q = same_verdict a b (p ∙ sym q)

pub least-one : OneReply 1 least.ps least.r least-promise.Post
least-one κs args a b x y p q = same-budget a b (p ∙ sym q)

pub best-one : OneReply 1 best.ps best.r best-promise.Post
best-one κs args a b x y p q = same_interface a b (p ∙ sym q)

pub write_one : OneReplyAndBytes 2 write.ps write.r write-promise.Post (λ κs x. x.1.0.now)
write_one κs args a b x y p q = (same_writing a b (p.0 ∙ sym q.0), p.1.0 ∙ sym q.1.0)

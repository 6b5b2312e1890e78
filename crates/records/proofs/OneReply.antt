-- Any two replies that the promise of a public function of `records` allows are equal, the bytes written included (`OneReply` of crate
-- promise). Assumes nothing.
use mathlib.Core.Path.{sym, ◌∙◌}
use Rattle.promise.specs.OneReply.{OneReply, OneReplyAndBytes}
use Rattle.records.proofs.Paper.{same_read}
use Rattle.records.proofs.answers.BadRecord.number.Kinds as number
use Rattle.records.proofs.answers.BadRecord.number.Reads as number-promise
use Rattle.records.proofs.answers.BadRecord.detail.Kinds as detail
use Rattle.records.proofs.answers.BadRecord.detail.Reads as detail-promise
use Rattle.records.proofs.reader.read.Kinds as read
use Rattle.records.proofs.reader.read.Reads as read-promise
use Rattle.records.proofs.writer.size.Kinds as size
use Rattle.records.proofs.writer.size.Reads as size-promise
use Rattle.records.proofs.writer.write.Kinds as write
use Rattle.records.proofs.writer.write.Reads as write-promise

pub read_one : OneReply 1 read.ps read.r read-promise.Post
read_one κs args a b x y p q = same_read a b (p ∙ sym q)

pub number_one : OneReply 0 number.ps number.r number-promise.Post
number_one κs args a b x y p q = p ∙ sym q

pub detail_one : OneReply 0 detail.ps detail.r detail-promise.Post
detail_one κs args a b x y p q = p ∙ sym q

pub size-one : OneReply 0 size.ps size.r size-promise.Post
size-one κs args a b x y p q = p ∙ sym q

pub write_one : OneReplyAndBytes 1 write.ps write.r write-promise.Post (λ κs x. x.1.0.now)
write_one κs args a b x y p q = (p.0 ∙ sym q.0, p.1 ∙ sym q.1)

-- Any two replies that the promise of a public function of `queries` allows are equal, the bytes written included (`OneReply` of crate
-- promise). Assumes nothing.
use mathlib.Core.Path.{sym, ◌∙◌}
use Rattle.promise.specs.OneReply.{OneReply, OneReplyAndBytes}
use Rattle.queries.proofs.line.bad_line.Kinds as bad-line
use Rattle.queries.proofs.line.bad_line.Reads as bad-line-promise
use Rattle.queries.proofs.line.trimmed_size.Kinds as trimmed-size
use Rattle.queries.proofs.line.trimmed_size.Reads as trimmed-size-promise
use Rattle.queries.proofs.line.answer.Kinds as answer
use Rattle.queries.proofs.line.answer.Reads as answer-promise

pub bad-line-one : OneReplyAndBytes 1 bad-line.ps bad-line.r bad-line-promise.Post (λ κs x. x.0.now)
bad-line-one κs args a b x y p q = (p.count ∙ sym q.count, p.whole ∙ sym q.whole)

pub answer-one : OneReplyAndBytes 2 answer.ps answer.r answer-promise.Post (λ κs x. x.1.0.now)
answer-one κs args a b x y p q = (p.count ∙ sym q.count, p.whole ∙ sym q.whole)

pub trimmed-size-one : OneReply 1 trimmed-size.ps trimmed-size.r trimmed-size-promise.Post
trimmed-size-one κs args a b x y p q = p.1 ∙ sym q.1

-- Any two replies that the promise of a public function of `lines` allows are equal, the core and the bytes written included (`OneReply`
-- of crate promise). Assumes nothing.
use Prim.Native.Nat.{ℕ}
use mathlib.Core.List.{List}
use mathlib.Core.Path.{◌≡◌, sym, ◌∙◌}
use Rattle.rules.specs.Card.{Card}
use Rattle.promise.specs.OneReply.{OneReplyAndBytes, OneReplyAndLeft}
use Rattle.lines.proofs.line.write_line.Kinds as write-line
use Rattle.lines.proofs.line.write_line.Reads as write-line-promise
use Rattle.lines.proofs.line.write_refusal.Kinds as write-refusal
use Rattle.lines.proofs.line.write_refusal.Reads as write-refusal-promise
use Rattle.lines.proofs.serving.serve.Kinds as serve
use Rattle.lines.proofs.serving.serve.Reads as serve-promise

pub write_line_one : OneReplyAndBytes 1 write-line.ps write-line.r write-line-promise.Post (λ κs x. x.1.0.now)
write_line_one κs args a b x y p q = (p.0 ∙ sym q.0, p.1 ∙ sym q.1)

pub write_refusal_one : OneReplyAndBytes 1 write-refusal.ps write-refusal.r write-refusal-promise.Post (λ κs x. x.1.1.0.now)
write_refusal_one κs args a b x y p q = (p.0 ∙ sym q.0, p.1 ∙ sym q.1)

pub serve_one : OneReplyAndLeft {L = Card × List ℕ} 3 serve.ps serve.r serve-promise.Post (λ κs x. (x.0.now, x.1.1.1.1.0.now))
serve_one κs args a b x y p q = (p.0 ∙ sym q.0, both (p.1.0 ∙ sym q.1.0) (p.1.1.0 ∙ sym q.1.1.0))
  where
    both : {c d : Card} {s t : List ℕ} → c ≡ d → s ≡ t → ◌≡◌ {A = Card × List ℕ} (c, s) (d, t)
    both e f = rw (e, f)

-- Any two replies that the promises of the public functions allow are equal, the bytes written included (`OneReply` and
-- `OneReplyAndBytes` of crate promise). Assumes nothing.
use Prim.Native.Nat.{ℕ}
use mathlib.Core.List.{List}
use mathlib.Core.Path.{◌≡◌, sym, ◌∙◌}
use Rattle.promise.specs.OneReply.{OneReply, OneReplyAndBytes}
use Rattle.text.specs.Text.{Put}
use Rattle.text.proofs.is_same.Kinds as is_same
use Rattle.text.proofs.is_same.Reads as is-same-promise
use Rattle.text.proofs.put_field.Kinds as put-field
use Rattle.text.proofs.put_field.Reads as put-field-promise
use Rattle.text.proofs.put_end.Kinds as put-end
use Rattle.text.proofs.put_end.Reads as put-end-promise
use Rattle.text.proofs.put_text.Kinds as put-text
use Rattle.text.proofs.put_text.Reads as put-text-promise

-- what is put at a place fixes the bytes after and the place behind
one-put : {o o₁ o₂ xs : List ℕ} {a b c : ℕ} → Put o a xs o₁ b → Put o a xs o₂ c → (b ≡ c) × (o₁ ≡ o₂)
one-put p q = (p.behind ∙ sym q.behind, p.stored ∙ sym q.stored)

pub put-field-one : OneReplyAndBytes 1 put-field.ps put-field.r put-field-promise.Post (λ κs x. x.0.now)
put-field-one κs args a b x y p q = one-put p q

pub put-end-one : OneReplyAndBytes 1 put-end.ps put-end.r put-end-promise.Post (λ κs x. x.0.now)
put-end-one κs args a b x y p q = one-put p q

pub put-text-one : OneReplyAndBytes 2 put-text.ps put-text.r put-text-promise.Post (λ κs x. x.0.now)
put-text-one κs args a b x y p q = one-put p q

pub is-same-one : OneReply 2 is_same.ps is_same.r is-same-promise.Post
is-same-one κs args a b x y p q = p ∙ sym q

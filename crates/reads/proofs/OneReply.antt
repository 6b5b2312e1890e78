-- Any two replies that the promise of a public function of `reads` allows are equal, the bytes moved included (`OneReply` of crate
-- promise). Assumes nothing.
use mathlib.Core.Path.{refl, sym, ◌∙◌}
use Rattle.promise.specs.OneReply.{OneReply, OneReplyAndBytes}
use Rattle.reads.proofs.machine.ends_by.Kinds as ends_by
use Rattle.reads.proofs.machine.ends_by.Reads as ends-by-promise
use Rattle.reads.proofs.move_rest.Kinds as move-rest
use Rattle.reads.proofs.move_rest.Reads as move-rest-promise

pub ends_by_one : OneReply 0 ends_by.ps ends_by.r ends-by-promise.Post
ends_by_one κs args a b x y p q = p ∙ sym q

pub move_rest_one : OneReplyAndBytes 1 move-rest.ps move-rest.r move-rest-promise.Post (λ κs x. x.0.now)
move_rest_one κs args a b x y p q = (refl, p ∙ sym q)

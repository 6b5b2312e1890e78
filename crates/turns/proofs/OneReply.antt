-- Any two replies that the promise of a public function of `turns` allows are equal, the state handed back included (`OneReply` of
-- crate promise). Assumes nothing.
use mathlib.Core.Path.{◌≡◌, sym, ◌∙◌}
use Rattle.units.specs.declared.Moment.{Moment}
use Rattle.rules.specs.Card.{Card}
use Rattle.rules.specs.Turn.{turn as turnRule}
use Rattle.promise.specs.OneReply.{OneReply, OneReplyAndLeft}
use Rattle.turns.specs.declared.Answer.{Answer}
use Rattle.turns.specs.declared.Change.{Change}
use Rattle.turns.specs.declared.Change.TheVariants.{Admit, Wake, Block, Remove, Tick}
use Rattle.turns.specs.Calls.{call_of, paper_reply}
use Rattle.turns.proofs.Paper.{whole-answer, whole-reply, same_status, same_look, same-found}
use Rattle.turns.proofs.Core.empty.Kinds as empty
use Rattle.turns.proofs.Core.empty.Reads as empty-promise
use Rattle.turns.proofs.Refusal.number.Kinds as number
use Rattle.turns.proofs.Refusal.number.Reads as number-promise
use Rattle.turns.proofs.Refusal.detail.Kinds as detail
use Rattle.turns.proofs.Refusal.detail.Reads as detail-promise
use Rattle.turns.proofs.Core.step.Kinds as step
use Rattle.turns.proofs.Core.step.Reads as step-promise
use Rattle.turns.proofs.Core.turn.Kinds as turn
use Rattle.turns.proofs.Core.turn.Reads as turn-promise
use Rattle.turns.proofs.Core.admit.Kinds as admit
use Rattle.turns.proofs.Core.admit.Reads as admit-promise
use Rattle.turns.proofs.Core.wake.Kinds as wake
use Rattle.turns.proofs.Core.wake.Reads as wake-promise
use Rattle.turns.proofs.Core.block.Kinds as block
use Rattle.turns.proofs.Core.block.Reads as block-promise
use Rattle.turns.proofs.Core.remove.Kinds as remove
use Rattle.turns.proofs.Core.remove.Reads as remove-promise
use Rattle.turns.proofs.Core.tick.Kinds as tick
use Rattle.turns.proofs.Core.tick.Reads as tick-promise
use Rattle.turns.proofs.Core.look.Kinds as look
use Rattle.turns.proofs.Core.look.Reads as look-promise
use Rattle.turns.proofs.Core.first_from.Kinds as first-from
use Rattle.turns.proofs.Core.first_from.Reads as first-from-promise
use Rattle.turns.proofs.Core.status.Kinds as status
use Rattle.turns.proofs.Core.status.Reads as status-promise

pub empty-one : OneReply 0 empty.ps empty.r empty-promise.Post
empty-one κs args a b x y p q = p ∙ sym q

pub number-one : OneReply 0 number.ps number.r number-promise.Post
number-one κs args a b x y p q = p ∙ sym q

pub detail-one : OneReply 0 detail.ps detail.r detail-promise.Post
detail-one κs args a b x y p q = p ∙ sym q

-- the state left in place too
pub step_one : OneReplyAndLeft 1 step.ps step.r step-promise.Post (λ κs x. x.0.now)
step_one κs args a b x y p q = (whole-reply args.0.now args.1.0 args.1.1.0 a b p.0 q.0, p.1 ∙ sym q.1)

abbrev Promise : Card → Moment → Change → Answer → Type 0
Promise c now change a =
    (paper_reply a.reply ≡ (turnRule c (call_of now change)).reply) × (a.core ≡ (turnRule c (call_of now change)).card)

answer-one : (c : Card) (now : Moment) (change : Change) (a b : Answer) → Promise c now change a → Promise c now change b → a ≡ b
answer-one c now change a b p q = whole-answer c now change a p.0 p.1 ∙ sym (whole-answer c now change b q.0 q.1)

pub turn_one : OneReply 0 turn.ps turn.r turn-promise.Post
turn_one κs args a b x y p q = answer-one args.0 args.1.0 args.1.1.0 a b p q

pub admit-one : OneReply 0 admit.ps admit.r admit-promise.Post
admit-one κs args a b x y p q = answer-one args.0 args.1.0 (Admit args.1.1.0) a b p q

pub wake-one : OneReply 0 wake.ps wake.r wake-promise.Post
wake-one κs args a b x y p q = answer-one args.0 args.1.0 (Wake args.1.1.0) a b p q

pub block_one : OneReply 0 block.ps block.r block-promise.Post
block_one κs args a b x y p q = answer-one args.0 args.1.0 (Block args.1.1.0) a b p q

pub remove-one : OneReply 0 remove.ps remove.r remove-promise.Post
remove-one κs args a b x y p q = answer-one args.0 args.1.0 (Remove args.1.1.0) a b p q

pub tick-one : OneReply 0 tick.ps tick.r tick-promise.Post
tick-one κs args a b x y p q = answer-one args.0 args.1.0 Tick a b p q

pub look_one : OneReply 1 look.ps look.r look-promise.Post
look_one κs args a b x y p q =
    same_look a b (p.0 ∙ sym q.0) (p.1.0 ∙ sym q.1.0) (p.1.1.0 ∙ sym q.1.1.0) (p.1.1.1 ∙ sym q.1.1.1)

pub first-from-one : OneReply 1 first-from.ps first-from.r first-from-promise.Post
first-from-one κs args a b x y p q = same-found a b (p ∙ sym q)

pub status_one : OneReply 1 status.ps status.r status-promise.Post
status_one κs args a b x y p q =
    same_status a b (p.0.0 ∙ sym q.0.0) (p.0.1 ∙ sym q.0.1) (p.1.0.0 ∙ sym q.1.0.0) (p.1.0.1 ∙ sym q.1.0.1)
    (p.1.1.0 ∙ sym q.1.1.0) (p.1.1.1.0 ∙ sym q.1.1.1.0) (p.1.1.1.1 ∙ sym q.1.1.1.1)

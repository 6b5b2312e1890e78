-- Any two replies that the promise of a public function of `shares` allows are equal (`OneReply` of crate promise): the paper's number and
-- values tell the answers apart. Assumes nothing.
use Prim.Native.Nat.{ℕ}
use mathlib.Core.Path.{◌≡◌, refl, ap, sym, ◌∙◌}
use Rattle.promise.specs.OneReply.{OneReply}
use Rattle.std.specs.Prelude.{Bool, true, false, Result, Ok, Err}
use Rattle.shares.specs.declared.answers.Refusal.{Refusal}
use Rattle.shares.specs.declared.answers.Refusal.TheVariants.{BadCount, BadTask, FallingPeriod, BadShare, NoBudget, BadLength, NotAligned}
use Rattle.shares.specs.declared.answers.Share.{Share}
use Rattle.shares.specs.Paper.{paper_refusal, paper_ticks, paper_verdict, paper_budget, paper_interface}
use Rattle.shares.proofs.answers.Refusal.number.Kinds as number
use Rattle.shares.proofs.answers.Refusal.number.Reads as number-promise
use Rattle.shares.proofs.answers.Refusal.detail.Kinds as detail
use Rattle.shares.proofs.answers.Refusal.detail.Reads as detail-promise
use Rattle.shares.proofs.calls.supply.Kinds as supply
use Rattle.shares.proofs.calls.supply.Reads as supply-promise
use Rattle.shares.proofs.calls.demand.Kinds as demand
use Rattle.shares.proofs.calls.demand.Reads as demand-promise
use Rattle.shares.proofs.calls.check.Kinds as check
use Rattle.shares.proofs.calls.check.Reads as check-promise
use Rattle.shares.proofs.calls.least.Kinds as least
use Rattle.shares.proofs.calls.least.Reads as least-promise
use Rattle.shares.proofs.calls.best.Kinds as best
use Rattle.shares.proofs.calls.best.Reads as best-promise

-- a row is its number and its detail
pub same-refusal : (r s : Refusal) → paper_refusal r ≡ paper_refusal s → r ≡ s
same-refusal BadCount BadCount e = refl
same-refusal BadCount (BadTask n) e = cc
same-refusal BadCount (FallingPeriod n) e = cc
same-refusal BadCount BadShare e = cc
same-refusal BadCount NoBudget e = cc
same-refusal BadCount BadLength e = cc
same-refusal BadCount NotAligned e = cc
same-refusal (BadTask m) BadCount e = cc
same-refusal (BadTask m) (BadTask n) e = cc
same-refusal (BadTask m) (FallingPeriod n) e = cc
same-refusal (BadTask m) BadShare e = cc
same-refusal (BadTask m) NoBudget e = cc
same-refusal (BadTask m) BadLength e = cc
same-refusal (BadTask m) NotAligned e = cc
same-refusal (FallingPeriod m) BadCount e = cc
same-refusal (FallingPeriod m) (BadTask n) e = cc
same-refusal (FallingPeriod m) (FallingPeriod n) e = cc
same-refusal (FallingPeriod m) BadShare e = cc
same-refusal (FallingPeriod m) NoBudget e = cc
same-refusal (FallingPeriod m) BadLength e = cc
same-refusal (FallingPeriod m) NotAligned e = cc
same-refusal BadShare BadCount e = cc
same-refusal BadShare (BadTask n) e = cc
same-refusal BadShare (FallingPeriod n) e = cc
same-refusal BadShare BadShare e = refl
same-refusal BadShare NoBudget e = cc
same-refusal BadShare BadLength e = cc
same-refusal BadShare NotAligned e = cc
same-refusal NoBudget BadCount e = cc
same-refusal NoBudget (BadTask n) e = cc
same-refusal NoBudget (FallingPeriod n) e = cc
same-refusal NoBudget BadShare e = cc
same-refusal NoBudget NoBudget e = refl
same-refusal NoBudget BadLength e = cc
same-refusal NoBudget NotAligned e = cc
same-refusal BadLength BadCount e = cc
same-refusal BadLength (BadTask n) e = cc
same-refusal BadLength (FallingPeriod n) e = cc
same-refusal BadLength BadShare e = cc
same-refusal BadLength NoBudget e = cc
same-refusal BadLength BadLength e = refl
same-refusal BadLength NotAligned e = cc
same-refusal NotAligned BadCount e = cc
same-refusal NotAligned (BadTask n) e = cc
same-refusal NotAligned (FallingPeriod n) e = cc
same-refusal NotAligned BadShare e = cc
same-refusal NotAligned NoBudget e = cc
same-refusal NotAligned BadLength e = cc
same-refusal NotAligned NotAligned e = refl

-- a struct is its fields
same-share : (s t : Share) → s.period ≡ t.period → s.budget ≡ t.budget → s ≡ t
same-share s t p b = ap (λ (P : ℕ). made P s.budget) p ∙ ap (made t.period) b
  where
    made : ℕ → ℕ → Share
    made P B = record { period = P; budget = B }

-- the paper's number and values tell the answers apart
pub same-ticks : (a b : Result ℕ Refusal) → paper_ticks a ≡ paper_ticks b → a ≡ b
same-ticks (Ok m) (Ok n) e = cc
same-ticks (Ok m) (Err s) e = cc
same-ticks (Err r) (Ok n) e = cc
same-ticks (Err r) (Err s) e = ap Err (same-refusal r s e)

pub same_verdict : (a b : Result Bool Refusal) → paper_verdict a ≡ paper_verdict b → a ≡ b
same_verdict (Ok true) (Ok true) e = refl
same_verdict (Ok true) (Ok false) e = cc
same_verdict (Ok true) (Err s) e = cc
same_verdict (Ok false) (Ok true) e = cc
same_verdict (Ok false) (Ok false) e = refl
same_verdict (Ok false) (Err s) e = cc
same_verdict (Err r) (Ok true) e = cc
same_verdict (Err r) (Ok false) e = cc
same_verdict (Err r) (Err s) e = ap Err (same-refusal r s e)

pub same-budget : (a b : Result ℕ Refusal) → paper_budget a ≡ paper_budget b → a ≡ b
same-budget (Ok m) (Ok n) e = cc
same-budget (Ok m) (Err s) e = cc
same-budget (Err r) (Ok n) e = cc
same-budget (Err r) (Err s) e = ap Err (same-refusal r s e)

pub same_interface : (a b : Result Share Refusal) → paper_interface a ≡ paper_interface b → a ≡ b
same_interface (Ok s) (Ok t) e = ap Ok (same-share s t (cc) (cc))
same_interface (Ok s) (Err r) e = cc
same_interface (Err r) (Ok t) e = cc
same_interface (Err r) (Err s) e = ap Err (same-refusal r s e)

pub number-one : OneReply 0 number.ps number.r number-promise.Post
number-one κs args a b x y p q = p ∙ sym q

pub detail-one : OneReply 0 detail.ps detail.r detail-promise.Post
detail-one κs args a b x y p q = p ∙ sym q

pub supply-one : OneReply 0 supply.ps supply.r supply-promise.Post
supply-one κs args a b x y p q = same-ticks a b (p ∙ sym q)

pub demand-one : OneReply 2 demand.ps demand.r demand-promise.Post
demand-one κs args a b x y p q = same-ticks a b (p ∙ sym q)

pub check-one : OneReply 2 check.ps check.r check-promise.Post
check-one κs args a b x y p q = same_verdict a b (p ∙ sym q)

pub least-one : OneReply 2 least.ps least.r least-promise.Post
least-one κs args a b x y p q = same-budget a b (p ∙ sym q)

pub best-one : OneReply 2 best.ps best.r best-promise.Post
best-one κs args a b x y p q = same_interface a b (p ∙ sym q)

-- Any two replies that the promise of a public function of `units` allows are equal (`OneReply` of crate promise). Assumes
-- nothing.
use mathlib.Core.Path.{sym, ◌∙◌}
use Rattle.promise.specs.OneReply.{OneReply}
use Rattle.units.proofs.Moment.new.Kinds as moment-new
use Rattle.units.proofs.Moment.new.Reads as moment-new-promise
use Rattle.units.proofs.Moment.ticks.Kinds as moment-ticks
use Rattle.units.proofs.Moment.ticks.Reads as moment-ticks-promise
use Rattle.units.proofs.MomentPartialOrd.partial_cmp.Kinds as moment-before
use Rattle.units.proofs.MomentPartialOrd.partial_cmp.Reads as moment-before-promise
use Rattle.units.proofs.MomentPartialEq.eq.Kinds as moment-same
use Rattle.units.proofs.MomentPartialEq.eq.Reads as moment-same-promise
use Rattle.units.proofs.Moment.plus.Kinds as moment-plus
use Rattle.units.proofs.Moment.plus.Reads as moment-plus-promise
use Rattle.units.proofs.Amount.new.Kinds as amount-new
use Rattle.units.proofs.Amount.new.Reads as amount-new-promise
use Rattle.units.proofs.Amount.ticks.Kinds as amount-ticks
use Rattle.units.proofs.Amount.ticks.Reads as amount-ticks-promise
use Rattle.units.proofs.Total.new.Kinds as total-new
use Rattle.units.proofs.Total.new.Reads as total-new-promise
use Rattle.units.proofs.Total.ticks.Kinds as total-ticks
use Rattle.units.proofs.Total.ticks.Reads as total-ticks-promise
use Rattle.units.proofs.Total.plus.Kinds as total-plus
use Rattle.units.proofs.Total.plus.Reads as total-plus-promise
use Rattle.units.proofs.Tunnel.new.Kinds as tunnel-new
use Rattle.units.proofs.Tunnel.new.Reads as tunnel-new-promise
use Rattle.units.proofs.Tunnel.number.Kinds as tunnel-number
use Rattle.units.proofs.Tunnel.number.Reads as tunnel-number-promise
use Rattle.units.proofs.TunnelPartialOrd.partial_cmp.Kinds as tunnel-below
use Rattle.units.proofs.TunnelPartialOrd.partial_cmp.Reads as tunnel-below-promise
use Rattle.units.proofs.TunnelPartialEq.eq.Kinds as tunnel-same
use Rattle.units.proofs.TunnelPartialEq.eq.Reads as tunnel-same-promise

pub moment-new-one : OneReply 0 moment-new.ps moment-new.r moment-new-promise.Post
moment-new-one κs args a b x y p q = p ∙ sym q

pub moment-ticks-one : OneReply 0 moment-ticks.ps moment-ticks.r moment-ticks-promise.Post
moment-ticks-one κs args a b x y p q = p ∙ sym q

pub moment_plus_one : OneReply 0 moment-plus.ps moment-plus.r moment-plus-promise.Post
moment_plus_one κs args a b x y p q = p ∙ sym q

pub amount-new-one : OneReply 0 amount-new.ps amount-new.r amount-new-promise.Post
amount-new-one κs args a b x y p q = p ∙ sym q

pub amount-ticks-one : OneReply 0 amount-ticks.ps amount-ticks.r amount-ticks-promise.Post
amount-ticks-one κs args a b x y p q = p ∙ sym q

pub total-new-one : OneReply 0 total-new.ps total-new.r total-new-promise.Post
total-new-one κs args a b x y p q = p ∙ sym q

pub total-ticks-one : OneReply 0 total-ticks.ps total-ticks.r total-ticks-promise.Post
total-ticks-one κs args a b x y p q = p ∙ sym q

pub total_plus_one : OneReply 0 total-plus.ps total-plus.r total-plus-promise.Post
total_plus_one κs args a b x y p q = p ∙ sym q

pub tunnel-new-one : OneReply 0 tunnel-new.ps tunnel-new.r tunnel-new-promise.Post
tunnel-new-one κs args a b x y p q = p ∙ sym q

pub tunnel-number-one : OneReply 0 tunnel-number.ps tunnel-number.r tunnel-number-promise.Post
tunnel-number-one κs args a b x y p q = p ∙ sym q

-- the order and the equality of moments and of identifiers, which are derived
pub moment-before-one : OneReply 2 moment-before.ps moment-before.r moment-before-promise.Post
moment-before-one κs args a b x y p q = p ∙ sym q

pub moment-same-one : OneReply 2 moment-same.ps moment-same.r moment-same-promise.Post
moment-same-one κs args a b x y p q = p ∙ sym q

pub tunnel-below-one : OneReply 2 tunnel-below.ps tunnel-below.r tunnel-below-promise.Post
tunnel-below-one κs args a b x y p q = p ∙ sym q

pub tunnel-same-one : OneReply 2 tunnel-same.ps tunnel-same.r tunnel-same-promise.Post
tunnel-same-one κs args a b x y p q = p ∙ sym q

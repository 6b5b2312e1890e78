-- `turns::Core::first_from` meets its contract: the smallest identifier of the places in use from `low` on, or that there is none.
-- Assumes nothing.
use Rattle.std.proofs.Common.{rules, ◌≡◌, ◌∙◌, arith, ap, option_map, Option, ℕ}
use Rattle.units.specs.Units.{tunnel}
use Rattle.rules.specs.Card.{Card, first_from}
use Rattle.turns.specs.Written.{number_in}
use Rattle.turns.proofs.Invariant.{between}
use Rattle.turns.proofs.Made.{sound}
use Rattle.turns.proofs.Stage.{n-is}
use Rattle.turns.proofs.Least.{first-is}
use Rattle.turns.proofs.Core.first_from.Goals as goal

pub shared_ref_as_front-least : goal.shared_ref_as_front-least
shared_ref_as_front-least c =
    let r = sound c.self.inside c.self.invariant in omega (arith, n-is c.self.inside r, (between c.self.inside r).few)

pub returns : goal.returns
returns c =
    let h : c.map.result ≡ option_map tunnel c.least.result = search rules in
    ap number_in h
    ∙ ap (λ (o : Option ℕ). number_in (option_map tunnel o)) c.least.ensures
    ∙ first-is c.self.inside (sound c.self.inside c.self.invariant) c.args.low.0
    ∙ ap (λ (k : Card). first_from c.args.low.0 k.vcpus) c.self.view_is

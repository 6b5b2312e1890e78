use Rattle.std.proofs.Common.{arith, length}
use Rattle.card.proofs.Goes.{went_as}
use Rattle.card.proofs.TellerMachine.serve_part.Goals as goal

pub returns : goal.returns
returns c some =
    let a = c.args in
    let s = c.serve-served in
    went_as a.self.now a.offset a.part.now a.last (length a.out.now) (omega arith) a.out.now s.new.out s.result s.new.core c.or-self.result c.end_of.result
    s.ensures.handed_back s.ensures.core_after c.or-self.ensures c.end_of.ensures s.ensures.out_after s.ensures.used_in_bounds.0 (omega (arith, s.ensures.used_in_bounds.1, s.auto.out))

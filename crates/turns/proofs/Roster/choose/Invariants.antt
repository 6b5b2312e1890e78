use Rattle.std.proofs.Common.{◌≡◌, take, drop}
use Rattle.turns.specs.Tenants.{picks, nobody_ready}
use Rattle.turns.proofs.Roster.choose.Given as goal

abbrev pub invariant-loop-j : goal.invariant-loop-j
invariant-loop-j l =
    picks l.pick l.j (drop l.j (take l.self.n l.self.places)) (drop l.j (take l.self.n l.next))
    ≡ picks nobody_ready 0 (take l.self.n l.self.places) (take l.self.n l.next)

-- `turns::Memory::time_of` meets its contract: the time in the slot that the search finds.
-- Assumes nothing.
use Rattle.std.proofs.Common.{◌≡◌, ◌∙◌, arith, ap, sym}
use Rattle.rules.specs.Remember.{time_of}
use Rattle.turns.specs.Written.{memories, moment_said}
use Rattle.turns.proofs.Remembered.{told_at, time-found, fixed-length}
use Rattle.turns.proofs.Memory.time_of.Goals as goal
use Rattle.turns.proofs.Memory.time_of.Goals.{After-find}

says : (c : After-find) → told_at c.args.self.now.until c.find.result ≡ moment_said (time_of c.args.id.0 (memories c.args.self.now))
says c =
    let m = c.args.self.now in
    let l = fixed-length m c.requires in
    ap (told_at m.until) c.find.ensures
    ∙ sym (time-found c.args.id.0 m.count m.ids m.until (omega (arith, c.requires.few, l.0)) (omega (arith, c.requires.few, l.1)))

pub returns-in_err-at : goal.returns-in_err-at
returns-in_err-at c =
    c.from_residual.ensures
    ∙ sym (ap (told_at c.args.self.now.until) c.in_err-at.was)
    ∙ says (goal.at.returns-in_err-at c).After-find

pub returns : goal.returns
returns c = sym (ap (told_at c.args.self.now.until) c.in_ok-at.was) ∙ says (goal.at.returns c).After-find

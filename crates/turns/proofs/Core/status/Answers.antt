-- `turns::Core::status` meets its contract: the fields say what the card shows.
-- Assumes nothing.
use mathlib.Core.Path.{refl, ap, ◌∙◌}
use Rattle.turns.specs.declared.Memory.{Memory}
use Rattle.turns.specs.Written.{card, number_in}
use Rattle.turns.proofs.Made.{sound}
use Rattle.turns.proofs.Questions.{holder-paper}
use Rattle.turns.proofs.Stage.{n-is, memory-is, running-place}
use Rattle.turns.proofs.Core.status.Goals as goal

pub holder-requires : goal.holder-requires
holder-requires c = running-place c.self.inside (sound c.self.inside c.self.invariant)

pub returns-clause-time_and_holder : goal.returns-clause-time_and_holder
unfolding card
returns-clause-time_and_holder c =
    rw (← c.self.view_is)
    (refl, ap number_in c.holder.ensures ∙ holder-paper c.self.inside (sound c.self.inside c.self.invariant))

pub returns-clause-timer_and_vcpus : goal.returns-clause-timer_and_vcpus
unfolding card
returns-clause-timer_and_vcpus c = rw (← c.self.view_is) (refl, n-is c.self.inside (sound c.self.inside c.self.invariant))

pub returns-clause-remembered_count : goal.returns-clause-remembered_count
returns-clause-remembered_count c =
    rw (← c.self.view_is)
    (ap (λ (m : Memory). m.count) (memory-is c.self.inside (sound c.self.inside c.self.invariant)))

pub returns-clause-removed_and_idle : goal.returns-clause-removed_and_idle
unfolding card
returns-clause-removed_and_idle c = rw (← c.self.view_is) (refl, refl)

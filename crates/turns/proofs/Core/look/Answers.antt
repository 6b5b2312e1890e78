-- `turns::Core::look` meets its contract: the place sought is the tenant's, and a vacant place is never named.
-- Assumes nothing.
use mathlib.Core.Path.{ap, sym, ◌∙◌}
use mathlib.Core.Bool.{true, false}
use native.Mathlib.Omega.{arith}
use lib.ListN.{get_or}
use Rattle.std.specs.Prelude.{None}
use Rattle.rules.specs.Remember.{time_of}
use Rattle.turns.specs.Steps.{boundary_held}
use Rattle.turns.specs.Written.{moment_in, written, no_tenant}
use Rattle.turns.proofs.Made.{sound}
use Rattle.turns.proofs.Questions.{Sought, wide_sought, absent-sought, there-sought, there-known, sought-at, unread}
use Rattle.turns.proofs.Stage.{memories_are, memory-written}
use Rattle.turns.proofs.Core.look.Goals as goal

pub presence-requires : goal.presence-requires
presence-requires c = memory-written c.self.inside (sound c.self.inside c.self.invariant)

-- an identifier above 24 bits
wide : (c : goal.Then-number-gt-LARGEST_TUNNEL) → Sought c.self.inside c.args.id.0 false (written no_tenant) None
wide c =
    wide_sought c.self.inside (sound c.self.inside c.self.invariant) c.args.id.0
    (omega (arith, c.number.ensures, c.if-number-gt-LARGEST_TUNNEL.true))

pub returns-then-number-gt-LARGEST_TUNNEL-clause-presence_is :
    goal.returns-then-number-gt-LARGEST_TUNNEL-clause-presence_is
returns-then-number-gt-LARGEST_TUNNEL-clause-presence_is c = rw (← c.self.view_is) (c.presence.ensures.0 ∙ (wide c).present)

pub returns-then-number-gt-LARGEST_TUNNEL-clause-remembered_until :
    goal.returns-then-number-gt-LARGEST_TUNNEL-clause-remembered_until
returns-then-number-gt-LARGEST_TUNNEL-clause-remembered_until c =
    rw (← c.self.view_is)
    (c.presence.ensures.1 ∙ ap (time_of c.args.id.0) (memories_are c.self.inside (sound c.self.inside c.self.invariant)))

pub returns-then-number-gt-LARGEST_TUNNEL-clause-vcpu_is :
    goal.returns-then-number-gt-LARGEST_TUNNEL-clause-vcpu_is
returns-then-number-gt-LARGEST_TUNNEL-clause-vcpu_is c = rw (← c.self.view_is) (c.vacant.ensures ∙ (wide c).is)

pub returns-then-number-gt-LARGEST_TUNNEL-clause-boundary_is :
    goal.returns-then-number-gt-LARGEST_TUNNEL-clause-boundary_is
returns-then-number-gt-LARGEST_TUNNEL-clause-boundary_is c = rw (← c.self.view_is) (wide c).boundary

-- one that is not found
missing : (c : goal.In_default) → Sought c.self.inside c.args.id.0 false (written no_tenant) None
missing c =
    let r = sound c.self.inside c.self.invariant in
    absent-sought c.self.inside r c.args.id.0 (omega (arith, c.number.ensures, c.if-number-gt-LARGEST_TUNNEL.false))
    (sym (sought-at c.self.inside r c.args.id.0) ∙ sym c.find.ensures ∙ c.in_default.is)

pub returns-in_default-clause-presence_is : goal.returns-in_default-clause-presence_is
returns-in_default-clause-presence_is c = rw (← c.self.view_is) (c.presence.ensures.0 ∙ (missing c).present)

pub returns-in_default-clause-remembered_until : goal.returns-in_default-clause-remembered_until
returns-in_default-clause-remembered_until c =
    rw (← c.self.view_is)
    (c.presence.ensures.1 ∙ ap (time_of c.args.id.0) (memories_are c.self.inside (sound c.self.inside c.self.invariant)))

pub returns-in_default-clause-vcpu_is : goal.returns-in_default-clause-vcpu_is
returns-in_default-clause-vcpu_is c = rw (← c.self.view_is) (c.vacant.ensures ∙ (missing c).is)

pub returns-in_default-clause-boundary_is : goal.returns-in_default-clause-boundary_is
returns-in_default-clause-boundary_is c = rw (← c.self.view_is) (missing c).boundary

-- and one that is
there : (c : goal.After-boundary)
    → Sought c.self.inside c.args.id.0 true (get_or c.self.inside.table.places c.in-Some.at unread)
    (boundary_held (get_or c.self.inside.table.places c.in-Some.at unread))
there c =
    let r = sound c.self.inside c.self.invariant in
    there-sought c.self.inside r c.args.id.0 (omega (arith, c.number.ensures, c.if-number-gt-LARGEST_TUNNEL.false)) c.in-Some.at unread
    (sym (sought-at c.self.inside r c.args.id.0) ∙ sym c.find.ensures ∙ c.in-Some.is)

pub returns-clause-presence_is : goal.returns-clause-presence_is
returns-clause-presence_is c = rw (← c.self.view_is) (there c).present

pub returns-clause-remembered_until : goal.returns-clause-remembered_until
returns-clause-remembered_until c =
    let r = sound c.self.inside c.self.invariant in
    rw (← c.self.view_is)
    (there-known c.self.inside r c.args.id.0 (omega (arith, c.number.ensures, c.if-number-gt-LARGEST_TUNNEL.false)) c.in-Some.at
    (sym (sought-at c.self.inside r c.args.id.0) ∙ sym c.find.ensures ∙ c.in-Some.is))

pub returns-clause-vcpu_is : goal.returns-clause-vcpu_is
returns-clause-vcpu_is c = rw (← c.self.view_is) (there c).is

pub returns-clause-boundary_is : goal.returns-clause-boundary_is
returns-clause-boundary_is c = rw (← c.self.view_is) (ap moment_in c.boundary.ensures ∙ (there c).boundary)

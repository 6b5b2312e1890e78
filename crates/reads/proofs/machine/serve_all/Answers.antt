use Rattle.std.proofs.Common.{rules, ◌≡◌, take, None, refl, arith, ◌∙◌, sym}
use Rattle.std.specs.Io.KnownBytes.{Appends}
use Rattle.reads.specs.Reads.{HasWrittenSome}
use Rattle.reads.proofs.Goes.{next_go, last-wrote, failed-wrote, not_none, is_none-is}
use Rattle.reads.proofs.machine.serve_all.Goals as goal
use Rattle.reads.proofs.machine.serve_all.Goals.{then-is_some-via-then-is_some, then-is_some-via-else-is_some+then-served-eq0}

pub returns-then-is_err-clause-wrote : goal.returns-then-is_err-clause-wrote
returns-then-is_err-clause-wrote g c =
    let a = c.args in
    let l = c.loop-served in
    let s = c.serve_part-served in
    let some : HasWrittenSome (g.W.Write.contents l.output) (g.W.Write.contents c.write_all.new.to) (take s.result.written s.new.out) = search rules in
    record {
      whole = λ n. absurd (n refl);
      front = failed-wrote g.M.Machine.run a.machine.now a.offset a.part.now a.last _ _ _ _ l.used l.invariant.1 _ s.new.out s.result (s.ensures (omega arith)) some;
    }

pub returns-then-is_some-clause-wrote : goal.returns-then-is_some-clause-wrote
returns-then-is_some-clause-wrote g c =
    let a = c.args in
    let l = c.loop-served in
    let s = c.serve_part-served in
    let all : Appends (g.W.Write.contents l.output) (g.W.Write.contents c.write_all.new.to) (take s.result.written s.new.out) = search rules in
    let rests : s.result.end ≡ None → s.result.used ≡ 0 = elim c.then-is_some.branch [
      | then-is_some-via-then-is_some w ↦ λ n. absurd (not_none s.result.end (sym c.is_some.ensures ∙ w.if-is_some.true) n)
      | then-is_some-via-else-is_some+then-served-eq0 w ↦ λ n. omega (arith, w.if-served-eq0.true)
    ] in
    last-wrote g.M.Machine.run a.machine.now a.offset a.part.now a.last _ _ _ _ l.used l.invariant.1 _ s.new.out s.result (s.ensures (omega arith)) rests all c.ends_by.result

pub loop-served-preserved : goal.loop-served-preserved
loop-served-preserved g c =
    let a = c.args in
    let l = c.loop-served in
    let s = c.serve_part-served in
    let all : Appends (g.W.Write.contents l.output) (g.W.Write.contents c.write_all.new.to) (take s.result.written s.new.out) = search rules in
    let goes : s.result.end ≡ None = is_none-is s.result.end (sym c.is_some.ensures ∙ c.if-is_some.false) in (
      s.auto.out ∙ l.invariant.0,
      next_go g.M.Machine.run a.machine.now a.offset a.part.now a.last _ _ _ _ l.used l.invariant.1 _ s.new.out s.result (s.ensures (omega arith)) goes (omega (arith, c.if-served-eq0.false)) all,
    )

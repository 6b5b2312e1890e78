use native.Mathlib.Omega.{arith}
use Prim.Native.Nat.{◌+◌}
use mathlib.Core.Path.{◌≡◌}
use lib.ListN.{length}
use Rattle.std.proofs.Common.{rules}
use Rattle.sheets.specs.Sheet.{bad, read_of}
use Rattle.sheets.proofs.Tasks.{full-push, pushed, all_lines, line_too_many, bad-line, gathered-more}
use Rattle.sheets.proofs.Scan.{LineIs, found_none, found_line, small_line, less-left}
use Rattle.sheets.proofs.sheet.Sheet.read.Goals as goal
use Rattle.sheets.proofs.sheet.Sheet.read.Goals.{In_ok-period}

-- the line that was read
read : (c : In_ok-period) → LineIs c.loop-rest.rest.now c.in_ok-period.period c.in_ok-period.cost c.in_ok-period.behind.now
read c =
    found_line c.loop-rest.rest.now c.line.result c.in_ok-period.period c.in_ok-period.cost c.in_ok-period.behind c.line.ensures
    c.in_ok-period.ensures.ok_part

pub returns-in_err-period : goal.returns-in_err-period
returns-in_err-period c =
    let l = c.loop-rest in
    let b : bad (length l.sheet.periods + 1) ≡ read_of c.args.bytes.now =
    bad-line c.args.bytes.now l.rest.now l.sheet l.invariant c.count.ensures.holds.few (grind arith) (found_none l.rest.now c.line.result c.line.ensures c.in_err-period.ensures.ok_part) in
    search rules

pub push-requires : goal.push-requires
push-requires c = let l = read (goal.at.push-requires c).In_ok-period in small_line _ _ _ _ l

pub returns-in_err-ok_or : goal.returns-in_err-ok_or
returns-in_err-ok_or c =
    let l = c.loop-rest in
    let b : bad (length l.sheet.periods + 1) ≡ read_of c.args.bytes.now =
    line_too_many c.args.bytes.now l.rest.now l.sheet l.invariant (full-push _ _ _ _ _ c.push.ensures c.in_err-ok_or.ensures.ok_part) (grind arith) in
    search rules

pub loop-rest-smaller : goal.loop-rest-smaller
loop-rest-smaller c = let l = read (goal.at.loop-rest-smaller c).In_ok-period in less-left _ _ _ _ l

pub loop-rest-preserved : goal.loop-rest-preserved
loop-rest-preserved c =
    let l = c.loop-rest in
    let k = read (goal.at.loop-rest-preserved c).In_ok-period in
    let m = pushed _ _ _ _ _ _ c.push.ensures c.in_ok-ok_or.ensures.ok_part in
    rw m.1 (gathered-more c.args.bytes.now l.rest.now l.sheet l.invariant c.in_ok-period.period c.in_ok-period.cost c.in_ok-period.behind.now k.line k.period k.cost k.left m.0)

pub returns : goal.returns
returns c =
    let l = c.loop-rest in all_lines c.args.bytes.now l.rest.now l.sheet l.invariant (grind arith)

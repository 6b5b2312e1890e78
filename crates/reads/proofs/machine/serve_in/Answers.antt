use Rattle.std.proofs.Common.{◌≡◌, ◌<◌, ◌≤◌, eqb, ◌++◌, length, take, drop, sym, ap, ◌∙◌, arith, length-take}
use Rattle.reads.specs.Reads.{most_bytes, came}
use Rattle.reads.specs.Machine.{ended}
use Rattle.reads.proofs.Goes.{not_none, is_none-is}
use Rattle.reads.proofs.Runs.{under-start, under_so_far, run_failed, run_ended, next_under, filled-size, filled_served, part-size, kept}
use Rattle.reads.proofs.machine.serve_in.Goals as goal
use Rattle.reads.proofs.machine.serve_in.Goals.{At-loop-n, After-read_part, After-end_of-end, After-serve_all-stand}
use Rattle.reads.proofs.machine.serve_in.Given as given

pub loop-n-init : goal.loop-n-init
loop-n-init g c = (c.large_buffer-input.ensures, c.requires, under-start _ _ g.met.M.Machine.run_nil g.met.M.Machine.run_more g.met.M.Machine.few_wait _ _ _ _)

-- few bytes wait, and the limit is not reached
few : (g : given.Over) → (c : At-loop-n g) → (c.loop-n.stand.held ≤ 65535) × (c.loop-n.stand.offset < most_bytes)
few g c =
    let f = under_so_far _ _ g.met.M.Machine.run_nil g.met.M.Machine.run_more g.met.M.Machine.few_wait _ _ _ _ _ _ _ c.loop-n.invariant.2 in
    (f.held-few, f.few)

pub slice_bounds-read_part-count : goal.slice_bounds-read_part-count
slice_bounds-read_part-count g c = omega (arith, (few g (goal.at.slice_bounds-read_part-count g c).At-loop-n).0)

pub slice_bounds-input-start : goal.slice_bounds-input-start
slice_bounds-input-start g c = omega (arith, (few g (goal.at.slice_bounds-input-start g c).At-loop-n).0)

pub returns-in_default : goal.returns-in_default
returns-in_default g c =
    let l = c.loop-n in
    let h : l.stand.held ≤ 65535 = (few g (goal.at.returns-in_default g c).At-loop-n).0 in
    let part = c.read_part.new.part in
    run_failed _ _ g.met.M.Machine.run_nil g.met.M.Machine.run_more g.met.M.Machine.few_wait _ _ _ _ _ _ _ l.invariant.2 part c.read_part.ensures.are_bytes
    (omega (arith, h, part-size 65536 l.stand.held l.input part (omega arith) l.invariant.0 c.read_part.auto.part)) _ c.in_default.ensures.bytes

pub end_of-end-requires : goal.end_of-end-requires
end_of-end-requires g c =
    let l = c.loop-n in
    let h = (few g (goal.at.end_of-end-requires g c).At-loop-n).0 in
    let n = filled-size 65536 l.stand.held l.input c.read_part.new.part (omega (arith, h)) l.invariant.0 c.read_part.auto.part in
    let size = part-size 65536 l.stand.held l.input c.read_part.new.part (omega (arith, h)) l.invariant.0 c.read_part.auto.part in
    (omega (arith, h, n), omega (arith, h, n, size, c.in-Some.ensures.room))

pub serve_all-stand-requires : goal.serve_all-stand-requires
serve_all-stand-requires g c =
    let l = c.loop-n in
    let f = few g (goal.at.serve_all-stand-requires g c).At-loop-n in
    let n = filled-size 65536 l.stand.held l.input c.read_part.new.part (omega (arith, f.0)) l.invariant.0 c.read_part.auto.part in
    (omega (arith, l.invariant.1), omega (arith, f.1, n, c.end_of-end.auto.input, length-take c.end_of-end.result c.end_of-end.new.input))

pub returns-then-is_some : goal.returns-then-is_some
returns-then-is_some g c =
    let l = c.loop-n in
    let u = l.invariant.2 in
    let h = (few g (goal.at.returns-then-is_some g c).At-loop-n).0 in
    let part = c.read_part.new.part in
    let k = c.in-Some.n in
    let size = part-size 65536 l.stand.held l.input part (omega (arith, h)) l.invariant.0 c.read_part.auto.part in
    let room : k ≤ length part = omega (arith, c.in-Some.ensures.room, c.read_part.auto.part) in
    let front = filled_served 65536 l.stand.held l.input part (omega (arith, h)) l.invariant.0 c.read_part.auto.part k room in
    let served : take c.end_of-end.result c.end_of-end.new.input ≡ ended g.M.Machine.ending (eqb k 0) (drop l.stand.offset (came u.reads) ++ take k part)
    = c.end_of-end.ensures.with_end ∙ ap (ended g.M.Machine.ending (eqb k 0)) (front ∙ ap (λ x. x ++ take k part) u.waits) in
    run_ended _ _ g.met.M.Machine.run_nil g.met.M.Machine.run_more g.met.M.Machine.few_wait _ _ _ _ _ _ _ u part c.read_part.ensures.are_bytes
    (omega (arith, h, size)) k room _ c.in-Some.ensures.bytes.0 _ served _ c.serve_all-stand.result
    c.serve_all-stand.ensures.served_or_failed _ c.serve_all-stand.ensures.wrote (not_none c.serve_all-stand.result.end (sym c.is_some.ensures ∙ c.if-is_some.true))

pub loop-n-preserved : goal.loop-n-preserved
loop-n-preserved g c =
    let l = c.loop-n in
    let u = l.invariant.2 in
    let h = (few g (goal.at.loop-n-preserved g c).At-loop-n).0 in
    let part = c.read_part.new.part in
    let k = c.in-Some.n in
    let size = part-size 65536 l.stand.held l.input part (omega (arith, h)) l.invariant.0 c.read_part.auto.part in
    let whole = filled-size 65536 l.stand.held l.input part (omega (arith, h)) l.invariant.0 c.read_part.auto.part in
    let room : k ≤ length part = omega (arith, c.in-Some.ensures.room, c.read_part.auto.part) in
    let front = filled_served 65536 l.stand.held l.input part (omega (arith, h)) l.invariant.0 c.read_part.auto.part k room in
    let served : take c.end_of-end.result c.end_of-end.new.input ≡ ended g.M.Machine.ending (eqb k 0) (drop l.stand.offset (came u.reads) ++ take k part)
    = c.end_of-end.ensures.with_end ∙ ap (ended g.M.Machine.ending (eqb k 0)) (front ∙ ap (λ x. x ++ take k part) u.waits) in
    let x = c.serve_all-stand.result in
    let rest = kept c.end_of-end.new.input c.move_rest.new.input c.end_of-end.result x.held c.end_of-end.ensures.in_bounds c.serve_all-stand.ensures.held_in_bounds c.move_rest.ensures in (
      whole ∙ sym (c.move_rest.auto.input ∙ c.end_of-end.auto.input),
      omega (arith, l.invariant.1, c.serve_all-stand.auto.out),
      next_under _ _ g.met.M.Machine.run_nil g.met.M.Machine.run_more g.met.M.Machine.few_wait _ _ _ _ _ _ _ u part c.read_part.ensures.are_bytes
          (omega (arith, h, size)) k room _ c.in-Some.ensures.bytes.0 _ served _ x
          c.serve_all-stand.ensures.served_or_failed _ c.serve_all-stand.ensures.wrote (is_none-is x.end (sym c.is_some.ensures ∙ c.if-is_some.false)) _ rest,
    )

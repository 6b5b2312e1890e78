-- That `card` keeps the laws of a machine (crate `reads`): serving what waits with the new bytes goes on from what was served before. Assumes
-- nothing.
use Rattle.std.specs.Prelude.{◌≡◌, ℕ, ◌+◌, ◌≤◌, Bool, false, List, [], ◌++◌, length, drop, is_some, Option, Some, None}
use Rattle.std.specs.Option.{option_or}
use mathlib.Core.Path.{refl, ap, sym, ◌∙◌}
use native.Mathlib.Omega.{arith}
use lib.ListN.{length-drop}
use Rattle.reads.specs.declared.machine.End.{End}
use Rattle.reads.specs.declared.machine.End.TheVariants.{Refused}
use Rattle.reads.specs.Machine.{further, unserved}
use Rattle.records.specs.declared.answers.BadRecord.{BadRecord}
use Rattle.lines.specs.Serve.{Run as Served, serve_of}
use Rattle.lines.proofs.ServedLines.{serve_end}
use Rattle.lines.proofs.Rest.{left-few, rest-left, used-within, cut_goes_on}
use Rattle.card.specs.declared.Teller.{Teller}
use Rattle.card.specs.Program.{end_of, told, run_of}

-- where there is no reason to end, nothing was refused
pub unrefused : (o : Option BadRecord) → end_of o ≡ None → o ≡ None
unrefused None h = refl
unrefused (Some b) h = let z : ◌≡◌ {A = Option End} (Some Refused) None = h in cc

pub runs_nil : (m : Teller) (offset : ℕ) → run_of m offset [] false ≡ unserved m
runs_nil m offset = ap (told m.refused) (serve_end m.core offset [] false None refl)

pub runs_more : (m : Teller) (offset : ℕ) (s more : List ℕ) (last : Bool) → (run_of m offset s false).end ≡ None
    → run_of m offset (s ++ more) last
    ≡ further (run_of m offset s false)
    (run_of (run_of m offset s false).machine (offset + (run_of m offset s false).used) (drop (run_of m offset s false).used s ++ more) last)
runs_more m offset s more last h =
    let r : Served = serve_of m.core offset s false None in
    let x : Served = serve_of r.core (offset + r.used) (drop r.used s ++ more) last None in
    let e : r.refused ≡ None = unrefused r.refused h in
    ap (told m.refused) (cut_goes_on m.core offset s more last (ap is_some e))
    ∙ ap (λ (o : Option BadRecord). further (told m.refused r) (told (option_or o m.refused) x)) (sym e)

pub runs_few : (m : Teller) (offset : ℕ) (s : List ℕ) → (run_of m offset s false).end ≡ None
    → ((run_of m offset s false).used ≤ length s) × (length s ≤ (run_of m offset s false).used + 65535)
runs_few m offset s h =
    let r : Served = serve_of m.core offset s false None in
    let few = left-few false (drop r.used s) (rest-left m.core offset s false (ap is_some (unrefused r.refused h))) in
    (used-within m.core offset s false None, omega (arith, few, length-drop r.used s))

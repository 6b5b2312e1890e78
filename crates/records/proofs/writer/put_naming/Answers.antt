-- `records::writer::put_naming` meets its contract: the identifier is laid behind the head. Assumes nothing.
use Prim.Native.Nat.{ℕ}
use mathlib.Core.Path.{◌≡◌, refl, ap, ◌∙◌}
use mathlib.Core.List.{List}
use Rattle.std.specs.Int.{to_be_bytes, w32}
use Rattle.records.specs.Bytes.{bytes_of}
use Rattle.records.specs.Encode.{head, laid}
use Rattle.records.proofs.Laid.{laid-behind, high-first}
use Rattle.records.proofs.writer.put_naming.Goals as goal

pub returns : goal.returns
unfolding head
returns c =
    let a = c.args in
    let e : c.to_be_bytes.result ≡ to_be_bytes w32 a.id.0 = c.to_be_bytes.ensures ∙ ap (to_be_bytes w32) c.number.ensures in
    laid-behind a.out.now _ _ 11 (head a.tag a.payload a.time.0) _ (bytes_of 3 a.id.0) refl (high-first 3 a.id.0) c.put_head.ensures
    (rw e at c.put.ensures)

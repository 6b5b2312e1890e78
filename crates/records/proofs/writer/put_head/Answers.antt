-- `records::writer::put_head` meets its contract: tag, length and time are laid one behind the other. Assumes nothing.
use Prim.Native.Nat.{ℕ, ◌%◌}
use native.Mathlib.Omega.{arith}
use mathlib.Core.Path.{◌≡◌, refl, ap, ◌∙◌}
use mathlib.Core.List.{List, [], ◌∷◌, ◌++◌}
use Rattle.std.specs.Int.{to_be_bytes, w64}
use Rattle.records.specs.Bytes.{bytes_of}
use Rattle.records.specs.Encode.{head, laid}
use Rattle.records.proofs.Laid.{laid-behind, high-first}
use Rattle.records.proofs.writer.put_head.Goals as goal

pub returns : goal.returns
unfolding head
returns c =
    let a = c.args in
    let s : List ℕ = a.out.now in
    let t : a.tag ≡ a.tag % 256 = omega arith in
    let o₁ : c.put.new.out ≡ laid s 0 (bytes_of 1 a.tag) = c.put.ensures ∙ ap (λ (b : ℕ). laid s 0 (b ∷ [])) t in
    let o₂ = laid-behind s _ _ 1 (bytes_of 1 a.tag) _ (bytes_of 2 a.payload) refl (c.to_be_bytes.ensures ∙ high-first 2 a.payload) o₁ c.put-2.ensures in
    laid-behind s _ _ 3 (bytes_of 1 a.tag ++ bytes_of 2 a.payload) _ (bytes_of 8 a.time.0) refl
    (c.to_be_bytes-2.ensures ∙ ap (to_be_bytes w64) c.ticks.ensures ∙ high-first 8 a.time.0) o₂ c.put-3.ensures

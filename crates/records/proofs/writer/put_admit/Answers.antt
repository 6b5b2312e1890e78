-- `records::writer::put_admit` meets its contract: the other fields are laid behind the identifier, one after the other.
-- Assumes nothing.
use Prim.Native.Nat.{ℕ, ◌%◌}
use native.Mathlib.Omega.{arith}
use mathlib.Core.Path.{◌≡◌, refl, ap, ◌∙◌}
use mathlib.Core.List.{List, [], ◌∷◌, ◌++◌}
use Rattle.std.specs.Int.{to_be_bytes, w32}
use Rattle.records.specs.Bytes.{bytes_of}
use Rattle.records.specs.Encode.{head, laid}
use Rattle.records.proofs.Laid.{laid-behind, high-first}
use Rattle.records.proofs.writer.put_admit.Goals as goal

pub returns : goal.returns
unfolding head
returns c =
    let s : List ℕ = c.args.out.now in
    let d = c.args.d in
    let x₁ : List ℕ = head 1 21 c.args.time.0 ++ bytes_of 3 d.tunnel.0 in
    let x₂ : List ℕ = x₁ ++ bytes_of 4 d.period.0 in
    let x₃ : List ℕ = x₂ ++ bytes_of 4 d.capacity.0 in
    let last : ◌≡◌ {A = List ℕ} (d.priority ∷ d.kind ∷ []) (d.priority % 256 ∷ d.kind % 256 ∷ []) =
    let p : d.priority ≡ d.priority % 256 = omega arith in
    let k : d.kind ≡ d.kind % 256 = omega arith in
    ap (λ (n : ℕ). n ∷ d.kind ∷ []) p ∙ ap (λ (n : ℕ). d.priority % 256 ∷ n ∷ []) k in
    let o₂ = laid-behind s _ _ 14 x₁ _ (bytes_of 4 d.period.0) refl
    (c.to_be_bytes.ensures ∙ ap (to_be_bytes w32) c.ticks.ensures ∙ high-first 4 d.period.0) c.put_naming.ensures c.put.ensures in
    let o₃ = laid-behind s _ _ 18 x₂ _ (bytes_of 4 d.capacity.0) refl
    (c.to_be_bytes-2.ensures ∙ ap (to_be_bytes w32) c.ticks-2.ensures ∙ high-first 4 d.capacity.0) o₂ c.put-2.ensures in
    laid-behind s _ _ 22 x₃ _ (bytes_of 1 d.priority ++ bytes_of 1 d.kind) refl last o₃ c.put-3.ensures

-- An answer's line, put in parts. Assumes nothing.
use Prim.Native.Nat.{ℕ, suc, ◌+◌, ◌*◌, ◌≤◌, ◌<◌}
use mathlib.Core.Path.{◌≡◌, ap, sym, ◌∙◌}
use mathlib.Core.List.{List, ◌∷◌, ◌++◌, map}
use native.Mathlib.Omega.{arith}
use native.Mathlib.Numerals.{add-one}
use lib.ListN.{length, get_or, drop}
use lib.Seq.{drop-cons}
use Rattle.std.proofs.Common.{append_assoc}
use Rattle.std.proofs.lemmas.List.{drop_all}
use Rattle.text.specs.Text.{decimal, fields, end_in, field_in, Put}
use Rattle.text.proofs.Writing.{put_as, put_two, put-size, end-put, field_put}
use Rattle.queries.specs.Text.{said, longest}

-- of a line the text and the first k numbers are put, and the next byte is put at `at`
pub record Putting (o text ns : List ℕ) (k : ℕ) (out : List ℕ) (at : ℕ) : Type 0 where
  pub front : List ℕ
  pub is-put : Put o 0 front out at
  pub left : front ++ fields (map decimal (drop k ns)) ≡ said text ns
  pub near : at ≤ 216 + 21 * k

-- a text of at most 216 bytes and at most two numbers
module _ (o text ns : List ℕ) (room : longest ≤ length o) (short : length text ≤ 216) (few : length ns ≤ 2) where
  pub putting-more : {out out' : List ℕ} {k at at' : ℕ} → Putting o text ns k out at → k < length ns
      → Put out at (field_in out at (get_or ns k 0)) out' at' → Putting o text ns (k + 1) out' at'
  putting-more {out} {out'} {k} {at} {at'} s more p =
      let n = get_or ns k 0 in
      let q = field_put out at n (omega (arith, s.near, put-size s.is-put)) p in
      record {
        front = s.front ++ (32 ∷ decimal n);
        is-put = put_two s.is-put q.0;
        left =
            rw add-one
            (append_assoc s.front (32 ∷ decimal n) (fields (map decimal (drop (suc k) ns)))
            ∙ ap (λ (l : List ℕ). s.front ++ fields (map decimal l)) (sym (drop-cons ns k 0 more))
            ∙ s.left);
        near = omega (arith, s.near, q.1);
      }

  pub putting-end : {out out' : List ℕ} {k at at' : ℕ} → Putting o text ns k out at → length ns ≤ k → k ≤ length ns → Put out at (end_in out at) out' at'
      → Put o 0 (said text ns) out' at' × (at' ≤ longest)
  putting-end {out} {out'} {k} {at} {at'} s all low p =
      let q = end-put out at (omega (arith, s.near, put-size s.is-put)) p in (
        put_as (ap (λ (l : List ℕ). s.front ++ fields (map decimal l)) (sym (drop_all k ns all)) ∙ s.left) (put_two s.is-put q.0),
        omega (arith, s.near, q.1),
      )

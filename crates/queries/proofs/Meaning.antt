-- What the parts of the code answer is what the line means. Assumes nothing.
use Prim.Native.Nat.{ℕ, suc, ◌+◌, ◌≤◌, ◌<◌}
use mathlib.Core.Path.{◌≡◌, refl, ◌∙◌, subst}
use mathlib.Core.Bool.{Bool, true, false, cond, not, ◌||◌}
use mathlib.Core.List.{List, [], ◌∷◌}
use native.Mathlib.Omega.{arith}
use native.Mathlib.Nat.{zero-add}
use lib.Dec.{leb, ltb}
use lib.ListN.{length}
use borrow.Author.Tests.{lt-ltb, le-ltb, leb-false}
use Rattle.std.specs.Prelude.{Some}
use Rattle.text.specs.Text.{Put}
use Rattle.text.proofs.Writing.{put-over}
use Rattle.model.specs.Form.{Form}
use Rattle.queries.specs.declared.ask.Word.{Word}
use Rattle.queries.specs.declared.ask.Word.TheVariants.{Supply, Demand, Check, Least, Best}
use Rattle.queries.specs.declared.ask.Spoken.TheVariants.{Known}
use Rattle.queries.specs.Text.{said, bad_field, bad_line, longest, answer_in, Written}
use Rattle.queries.specs.Meaning.{is_number, heads, too_many, first_bad, fields_mean, bytes_mean, trimmed, line_means}

-- a query without a field lacks the first one
pub lone_means : (form : Form) (w : Word) → said bad_field (1 ∷ []) ≡ fields_mean form (Some (Known w)) []
unfolding first_bad
lone_means form Supply = refl
lone_means form Demand = refl
lone_means form Check = refl
lone_means form Least = refl
lone_means form Best = refl

-- where no field is bad, the word's own fields are there
fields-there : (w : Word) (k : ℕ) (fs : List (List ℕ)) → first_bad w (suc k) fs ≡ 0 → heads w ≤ k + length fs
unfolding first_bad
fields-there w k [] e = go (leb (suc k) (heads w)) refl e
  where
    go : (t : Bool) → leb (suc k) (heads w) ≡ t → cond t (suc k) 0 ≡ 0 → heads w ≤ k + 0
    go true t h = absurd (omega arith)
    go false t h = omega (arith, leb-false (suc k) (heads w) t)
fields-there w k (f ∷ fs) e = go (too_many w (suc k) || not (is_number f)) e (fields-there w (suc k) fs)
  where
    go : (t : Bool) → cond t (suc k) (first_bad w (suc (suc k)) fs) ≡ 0 → (first_bad w (suc (suc k)) fs ≡ 0 → heads w ≤ suc k + length fs)
        → heads w ≤ k + suc (length fs)
    go true h r = absurd (omega arith)
    go false h r = omega (arith, r h)

pub heads-there : (w : Word) (fs : List (List ℕ)) → first_bad w 1 fs ≡ 0 → heads w ≤ length fs
heads-there w fs e = omega (arith, fields-there w 0 fs e)

-- what is written: nothing, or the answer where it has room
module _ (text out : List ℕ) where
  pub written_none : text ≡ [] → Written (answer_in text out) out out 0
  written_none e = go (ltb (length out) longest)
    where
      go : (t : Bool) → Written (cond t [] text) out out 0
      go true = record { count = refl; whole = refl }
      go false = rw e (record { count = refl; whole = refl })

  pub written-full : length out < longest → Written (answer_in text out) out out 0
  written-full full = rw (lt-ltb (length out) longest full) (record { count = refl; whole = refl })

  pub written-put : (xs out' : List ℕ) (n : ℕ) → longest ≤ length out → xs ≡ text → Put out 0 xs out' n × (n ≤ longest)
      → Written (answer_in text out) out out' n
  written-put xs out' n room e p =
      rw (le-ltb (length out) longest room, ← e)
      (record { count = p.0.behind ∙ zero-add (length xs); whole = put-over (omega (arith, p.1)) p.0 })

-- a line that is too long, and one that is not
pub long-means : (l : List ℕ) → 65535 < length l → said bad_line [] ≡ line_means l
unfolding line_means
long-means l long = rw (lt-ltb 65535 (length l) long)

pub long-written : (l out : List ℕ) {out' : List ℕ} {n : ℕ} → 65535 < length l → Written (answer_in (said bad_line []) out) out out' n
    → Written (answer_in (line_means l) out) out out' n
long-written l out {out'} {n} long w =
    subst (λ (text : List ℕ). Written (answer_in text out) out out' n) (long-means l long) w

pub short-means : (l : List ℕ) → length l ≤ 65535 → bytes_mean (trimmed l) ≡ line_means l
unfolding line_means
short-means l short = rw (le-ltb 65535 (length l) short)

pub empty-means : (l : List ℕ) → length l ≡ 0 → bytes_mean l ≡ []
empty-means [] e = refl
empty-means (x ∷ l) e = absurd (omega arith)

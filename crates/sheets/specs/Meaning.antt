-- What a sheet is, as plain statements of text and numbers, with none of the tests of Sheet.antt in them. proofs/Meaning.antt shows that
-- reading says the same. Assumes nothing.
use Rattle.std.specs.Prelude.{ℕ, suc, ◌≤◌, ◌≡◌, List, ◌++◌, ◌⊎◌, length, get_or}
use Rattle.model.specs.Asked.{Work}
use Rattle.sheets.specs.Sheet.{line_of, written}

-- tasks that a sheet can hold: at most 16, each with a period and a cost of one to four digits
pub record Holds (w : Work) : Type 0 where
  pub paired : length w.costs ≡ length w.periods
  pub few : length w.periods ≤ 16
  pub small-periods : (i : ℕ) → get_or w.periods i 0 ≤ 9999
  pub small-costs : (i : ℕ) → get_or w.costs i 0 ≤ 9999

-- the bytes are the sheet of these tasks
pub record IsSheet (bytes : List ℕ) (w : Work) : Type 0 where
  pub holds : Holds w
  pub same_bytes : bytes ≡ written w.periods w.costs

-- the bytes begin with no line
abbrev pub NoLine : List ℕ → Type 0
NoLine bytes = (p e : ℕ) (more : List ℕ) → p ≤ 9999 → e ≤ 9999 → bytes ≡ line_of p e ++ more → ⊥

-- line k is the first bad one: good lines before it, and behind them bytes that begin with no line; or 16 good ones, and more
pub record FirstBad (bytes : List ℕ) (k : ℕ) : Type 0 where
  pub good : Work
  pub rest : List ℕ
  pub holds : Holds good
  pub same_bytes : bytes ≡ written good.periods good.costs ++ rest
  pub place : k ≡ suc (length good.periods)
  pub some_left : 1 ≤ length rest
  pub reason : (k ≡ 17) ⊎ NoLine rest

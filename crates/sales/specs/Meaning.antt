-- What a run of the program means, in plain facts: of what it ends with and of its reads, the latest first. Assumes nothing.
use Rattle.std.specs.Prelude.{ℕ, ◌≤◌, ◌<◌, ◌≡◌, true, false, List, ◌∷◌, ◌++◌, ◌⊎◌, length, Some, None}
use Rattle.reads.specs.declared.machine.End.TheVariants.{EndOfInput, Refused, ReadFailed, WriteFailed, ByteLimit}
use Rattle.reads.specs.Reads.{Bytes, Read, brought, came, at_end, has_failed}
use Rattle.reads.specs.Machine.{Round}
use Rattle.sales.specs.declared.Sale.{Sale}
use Rattle.sales.specs.Sales.{answer_to}

pub record Meaning (r : Round Sale) (reads : List Read) : Type 0 where
  -- a read that answers k brings k bytes, and these are bytes
  pub all-brought : (x : Read) (k : ℕ) → x.got ≡ Some k → length (brought x) ≡ k
  pub are_bytes : Bytes (came reads)
  -- every byte that came is held
  pub every_byte : (r.standing ≡ Some WriteFailed → ⊥) → r.held ≡ length (came reads)
  -- the end of input: exactly when a read answered 0; what is served then is the answer to all that came
  pub end_of_input : r.standing ≡ Some EndOfInput → (at_end reads ≡ true) × (length (came reads) ≤ 65535)
  pub at_the_end : (r.standing ≡ Some WriteFailed → ⊥) → at_end reads ≡ true → r.standing ≡ Some EndOfInput
  -- the byte limit: exactly when more than 65,535 bytes came
  pub byte_limit : r.standing ≡ Some ByteLimit → 65535 < length (came reads)
  pub at_the_limit : (r.standing ≡ Some WriteFailed → ⊥) → 65535 < length (came reads) → r.standing ≡ Some ByteLimit
  -- at either end the answer to all that came is served, and elsewhere nothing
  pub all-served : (r.standing ≡ Some EndOfInput) ⊎ (r.standing ≡ Some ByteLimit) → r.machine.served ≡ length (answer_to (came reads))
  -- a failed read: exactly when the latest read failed; nothing is served then
  pub read-failed : r.standing ≡ Some ReadFailed → (has_failed reads ≡ true) × (r.machine.served ≡ 0)
  pub at_the_failure : (r.standing ≡ Some WriteFailed → ⊥) → has_failed reads ≡ true → r.standing ≡ Some ReadFailed
  -- there is no other reason to end
  pub a_reason : r.standing ≡ None → ⊥
  pub never-refused : r.standing ≡ Some Refused → ⊥
  -- no read comes after the end of input, after a read that failed, or where the input is too long
  pub no-more-reads : (later : List Read) (x : Read) (before : List Read) → reads ≡ later ++ (x ∷ before)
      → (at_end before ≡ false) × (has_failed before ≡ false) × (length (came before) ≤ 65535)

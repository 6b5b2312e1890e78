-- A program that serves what it reads: what its machine makes of some bytes, a round, and a run, for every machine. Assumes nothing.
use Rattle.std.specs.Prelude.{◌≡◌, ℕ, ◌+◌, ◌-◌, ◌≤◌, Bool, cond, leb, eqb, List, [], ◌∷◌, ◌++◌, length, take, drop, Option, Some, None}
use Rattle.reads.specs.declared.machine.End.{End}
use Rattle.reads.specs.declared.machine.End.TheVariants.{EndOfInput, ReadFailed, WriteFailed, ByteLimit}
use Rattle.reads.specs.declared.machine.Served.{Served}
use Rattle.reads.specs.declared.machine.Stand.{Stand}
use Rattle.std.specs.Io.KnownBytes.{Appends, Consumes}
use Rattle.reads.specs.Reads.{most_bytes, HasWrittenSome, Read, came, at_end}
use Rattle.reads.specs.Program.{Program, Ran}

-- the first of the reasons to end that applies: the machine's own, the end of the input, the byte limit
abbrev pub ends_by : Option End → Bool → ℕ → Option End
ends_by (Some e) last offset = Some e
ends_by None last offset = cond last (Some EndOfInput) (cond (leb most_bytes offset) (Some ByteLimit) None)

-- what serving some bytes gives: the machine behind them, how many of them are used, the replies, and, where nothing more is served, why
pub record Run (M : Type 0) : Type 0 where
  pub machine : M
  pub used : ℕ
  pub text : List ℕ
  pub end : Option End

-- one run that went on, and then another
abbrev pub further : {M : Type 0} → Run M → Run M → Run M
further a b = record { machine = b.machine; used = a.used + b.used; text = a.text ++ b.text; end = b.end }

-- nothing is served
abbrev pub unserved : {M : Type 0} → M → Run M
unserved m = record { machine = m; used = 0; text = []; end = None }

-- what a machine makes of the bytes s from an offset on, with room for all replies: the last argument says that no more come
abbrev pub Serving : Type 0 → Type 0
Serving M = M → ℕ → List ℕ → Bool → Run M

-- one go of a machine, with the replies in front of its room: the go and then the rest give what all of the part gives, and a go that
-- ends, or uses nothing, is all
pub record Went {M : Type 0} (run : Serving M) (old : M) (offset : ℕ) (part : List ℕ) (last : Bool) (new : M) (out : List ℕ) (go : Served)
    : Type 0 where
  pub within : (go.used ≤ length part) × (go.written ≤ length out)
  pub in_turn : go.end ≡ None → 1 ≤ go.used
      → run old offset part last
      ≡ further (record { machine = new; used = go.used; text = take go.written out; end = None })
      (run new (offset + go.used) (drop go.used part) last)
  pub is_all : (go.end ≡ None → go.used ≡ 0)
      → run old offset part last ≡ record { machine = new; used = go.used; text = take go.written out; end = go.end }

-- the text was written, or, where a write failed, a front of it
pub record Wrote (before after : Option (List ℕ)) (end : Option End) (text : List ℕ) : Type 0 where
  pub whole : (end ≡ Some WriteFailed → ⊥) → Appends before after text
  pub front : HasWrittenSome before after text

-- at the end of the input, where that is a byte to the machine, it stands behind the bytes
abbrev pub with_end : Option ℕ → List ℕ → List ℕ
with_end None s = s
with_end (Some b) s = s ++ (b ∷ [])

abbrev pub ended : Option ℕ → Bool → List ℕ → List ℕ
ended ending last s = cond last (with_end ending s) s

-- a round: the machine, the offset of the first byte that waits, how many wait, and, where the program ends, why
pub record Round (M : Type 0) : Type 0 where
  pub machine : M
  pub offset : ℕ
  pub held : ℕ
  pub standing : Option End

abbrev pub round_at : {M : Type 0} → M → Stand → Round M
round_at m x = record { machine = m; offset = x.offset; held = x.held; standing = x.end }

-- the bytes s, which begin at `offset`, are served, and those that are not used are held
abbrev pub served_part : {M : Type 0} → Serving M → M → ℕ → List ℕ → Bool → Round M
served_part run m offset s last =
    record {
      machine = (run m offset s last).machine;
      offset = offset + (run m offset s last).used;
      held = length s - (run m offset s last).used;
      standing = ends_by (run m offset s last).end last (offset + (run m offset s last).used);
    }

abbrev pub failed : {M : Type 0} → Round M → Round M
failed r = record { machine = r.machine; offset = r.offset; held = r.held; standing = Some ReadFailed }

-- a round with the bytes s to serve: the read's answer 0 is the end of the input, and none a read that failed
abbrev pub round_of : {M : Type 0} → Serving M → Option ℕ → Round M → List ℕ → Option ℕ → Round M
round_of run ending r s (Some k) = served_part run r.machine r.offset (ended ending (eqb k 0) s) (eqb k 0)
round_of run ending r s None = failed r

-- after a read, with s all bytes that came: they are served in one piece
abbrev pub after_read : {M : Type 0} → Serving M → Option ℕ → M → Option ℕ → List ℕ → Round M → Round M
after_read run ending m (Some k) s before = served_part run m 0 (ended ending (eqb k 0) s) (eqb k 0)
after_read run ending m None s before = failed before

-- the program that serves by the machine m
abbrev pub program_of : {M : Type 0} → Serving M → Option ℕ → M → Program (Round M)
program_of run ending m =
    record {
      standing_of = λ r. r.standing;
      start = record { machine = m; offset = 0; held = 0; standing = None };
      after = after_read run ending m;
    }

-- what it replies to all that came
abbrev pub replies : {M : Type 0} → Serving M → Option ℕ → M → List Read → List ℕ
replies run ending m reads = (run m 0 (ended ending (at_end reads) (came reads)) (at_end reads)).text

-- a run by the machine m, which it left as `new`: what came was read, and what it replied to all that came was written
pub record HasServed {M : Type 0} (run : Serving M) (ending : Option ℕ) (m new : M) (x : Stand) (from from_new to to_new : Option (List ℕ))
    : Type 0 where
  pub ran : Ran (program_of run ending m) (round_at new x)
  pub read : Consumes from from_new (came ran.reads)
  pub wrote : Wrote to to_new x.end (replies run ending m ran.reads)

-- what is told of an end, of these two messages: the one for a read that failed, the one for a write that failed, or nothing
abbrev pub message_of : Option End → List ℕ → List ℕ → List ℕ
message_of (Some ReadFailed) read write = read
message_of (Some WriteFailed) read write = write
message_of _ read write = []

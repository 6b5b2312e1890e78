-- Document 01: "Any two replies allowed by one promise are shown to be equal." The promise is a function's contract as the check itself
-- made it from the source (`Reads.Post`), of a function with n lifetimes, parameters ps and result r. Assumes nothing.
use Rattle.std.specs.Prelude.{ℕ, ◌≡◌, List}
use contract.Lifetimes.{Lfts}
use denote.Triple.Clauses.{AtExit}
use borrow.Fn.Kinds.{ParamKind, ResultKind, Dens, res_t, ended_of, Out}

-- two results that it allows for the same arguments are one
abbrev pub OneReply : (n : ℕ) (ps : List (ParamKind n)) (r : ResultKind n) → Out n ps r → Type 0
OneReply n ps r Promise =
    (κs : Lfts n) (args : Dens κs ps) (a b : (res_t r κs).Denot) (x y : AtExit (ended_of n ps r) κs)
    → Promise κs args a x → Promise κs args b y → a ≡ b

-- and so is what is left of what was lent to be written, which `left` reads at the exit
abbrev pub OneReplyAndLeft : {L : Type 0} (n : ℕ) (ps : List (ParamKind n)) (r : ResultKind n) → Out n ps r
    → ((κs : Lfts n) → AtExit (ended_of n ps r) κs → L) → Type 0
OneReplyAndLeft n ps r Promise left =
    (κs : Lfts n) (args : Dens κs ps) (a b : (res_t r κs).Denot) (x y : AtExit (ended_of n ps r) κs)
    → Promise κs args a x → Promise κs args b y → (a ≡ b) × (left κs x ≡ left κs y)

-- .., where that is the bytes of a slice
abbrev pub OneReplyAndBytes : (n : ℕ) (ps : List (ParamKind n)) (r : ResultKind n) → Out n ps r
    → ((κs : Lfts n) → AtExit (ended_of n ps r) κs → List ℕ) → Type 0
OneReplyAndBytes n ps r Promise left = OneReplyAndLeft n ps r Promise left

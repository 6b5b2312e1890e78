-- Cited by private functions only: an answer's text, the number of a field as it is kept, and what is known of the fields that were read.
-- Assumes nothing.
use Rattle.std.specs.Prelude.{ℕ, ◌+◌, ◌-◌, ◌*◌, ◌<◌, min, ◌≡◌, cond, List, [], ◌∷◌, map, ltb, length, get_or, set, Option, Some, None, Result, Ok, Err}
use denote.Ref.{Bor}
use Rattle.text.specs.Text.{ok, number}
use Rattle.model.specs.Form.{Form}
use Rattle.model.specs.Asked.{reply_to}
use Rattle.shares.specs.Paper.{paper_form, paper_refusal}
use Rattle.shares.specs.declared.form.Form.{Form as FormAsked}
use Rattle.queries.specs.declared.answers.Told.{Told}
use Rattle.queries.specs.declared.answers.Told.TheVariants.{Help, Number, Share}
use Rattle.queries.specs.declared.answers.Fault.{Fault}
use Rattle.queries.specs.declared.answers.Fault.TheVariants.{BadLine, BadWord, BadField, Refused}
use Rattle.queries.specs.declared.ask.Word.{Word}
use Rattle.queries.specs.declared.ask.Fields.{Fields}
use Rattle.queries.specs.Text.{said, bad_word, bad_field, bad_line, help, line_of}
use Rattle.queries.specs.Meaning.{until, behind, is_number, first_bad, asks, pieces_mean}

-- the line of what a line is answered
abbrev pub text_of : Result Told Fault → List ℕ
text_of (Ok Help) = said help []
text_of (Ok (Number n)) = said ok (n ∷ [])
text_of (Ok (Share s)) = said ok (s.period ∷ s.budget ∷ [])
text_of (Err BadLine) = said bad_line []
text_of (Err BadWord) = said bad_word []
text_of (Err (BadField k)) = said bad_field (k ∷ [])
text_of (Err (Refused r)) = line_of (paper_refusal r)

-- a number above 9,999, and so above every limit, is kept as 9,999
abbrev pub capped : List ℕ → ℕ
capped field = min (number field) 9999

abbrev pub with_digit : ℕ → ℕ → ℕ
with_digit n b = min (n * 10 + (b - 48)) 9999

abbrev pub number_read : List ℕ → Option ℕ
number_read field = cond (is_number field) (Some (capped field)) None

-- from the 38th number on none is kept
abbrev pub kept_at : List ℕ → ℕ → ℕ → List ℕ
kept_at numbers at n = cond (ltb at 37) (set numbers at n) numbers

-- the pieces between the bytes b
abbrev pub pieces : ℕ → List ℕ → List (List ℕ)
pieces b s = until b s ∷ behind b s

-- those of what stands behind a word, if anything does
abbrev pub fields_in : Option (Bor (List ℕ)) → List (List ℕ)
fields_in None = []
fields_in (Some line) = pieces 32 line.now

-- the numbers are those of the first fields
abbrev pub Kept : List (List ℕ) → List ℕ → Type 0
Kept fs numbers = (i : ℕ) → i < 37 → i < length fs → get_or numbers i 0 ≡ capped (get_or fs i [])

-- the fields were read, or the first bad one is told
abbrev pub FieldsAre : Word → List (List ℕ) → Result Fields Fault → Type 0
FieldsAre w fs (Ok r) = (first_bad w 1 fs ≡ 0) × (r.count ≡ length fs) × Kept fs r.numbers
FieldsAre w fs (Err e) = (0 < first_bad w 1 fs) × (text_of (Err e) ≡ said bad_field (first_bad w 1 fs ∷ []))

-- every other number from a place on
abbrev pub EveryOther : List ℕ → ℕ → List ℕ → Type 0
EveryOther numbers from r = (i : ℕ) → i < 17 → get_or r i 0 ≡ get_or numbers (from + 2 * i) 0

-- the text is what the word asks in this form with the numbers of any fields that were read so
abbrev pub Answers : Form → Word → Fields → List ℕ → Type 0
Answers form w r text =
    (fs : List (List ℕ)) → Kept fs r.numbers → r.count ≡ length fs → text ≡ line_of (reply_to (asks form w (map number fs)))

-- where a word begins, it and what stands behind it mean this text in that form
abbrev pub Begins : List ℕ → Result (FormAsked × Bor (List ℕ) × Option (Bor (List ℕ))) Fault → Type 0
Begins text (Ok w) = pieces_mean (paper_form w.0) (w.1.now ∷ fields_in w.2) ≡ text
Begins text (Err e) = text_of (Err e) ≡ text

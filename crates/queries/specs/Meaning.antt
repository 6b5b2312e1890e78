-- What a line means: from its bytes, without the newline, to the bytes of the answer; and so what an input means. Assumes nothing.
use Rattle.std.specs.Prelude.{ℕ, suc, ◌-◌, Bool, true, false, cond, not, ◌&&◌, ◌||◌, Option, Some, None, List, [], ◌∷◌, ◌++◌, map, leb, ltb, eqb, length, get_or, take, drop}
use Rattle.text.specs.Text.{number, same}
use Rattle.model.specs.Form.{Form, ordinary, aligned}
use Rattle.model.specs.Asked.{Work, Asked, supply, demand, check, least, best, reply_to}
use Rattle.queries.specs.declared.ask.Word.{Word}
use Rattle.queries.specs.declared.ask.Word.TheVariants.{Supply, Demand, Check, Least, Best}
use Rattle.queries.specs.declared.ask.Spoken.{Spoken}
use Rattle.queries.specs.declared.ask.Spoken.TheVariants.{Known, Help}
use Rattle.queries.specs.Text.{said, bad_word, bad_field, bad_line, help, line_of}

-- the bytes before the first b
abbrev pub until : ℕ → List ℕ → List ℕ
until b [] = []
until b (x ∷ xs) = cond (eqb x b) [] (x ∷ until b xs)

-- what stands behind each b, up to the next one
abbrev pub behind : ℕ → List ℕ → List (List ℕ)
behind b [] = []
behind b (x ∷ xs) = cond (eqb x b) (until b xs ∷ behind b xs) (behind b xs)

-- "supply", "demand", "check", "least", "best", "help"
unfoldable pub spoken_of : List ℕ → Option Spoken
spoken_of word =
    cond (same word (115 ∷ 117 ∷ 112 ∷ 112 ∷ 108 ∷ 121 ∷ [])) (Some (Known Supply))
    (cond (same word (100 ∷ 101 ∷ 109 ∷ 97 ∷ 110 ∷ 100 ∷ [])) (Some (Known Demand))
    (cond (same word (99 ∷ 104 ∷ 101 ∷ 99 ∷ 107 ∷ [])) (Some (Known Check))
    (cond (same word (108 ∷ 101 ∷ 97 ∷ 115 ∷ 116 ∷ [])) (Some (Known Least))
    (cond (same word (98 ∷ 101 ∷ 115 ∷ 116 ∷ [])) (Some (Known Best))
    (cond (same word (104 ∷ 101 ∷ 108 ∷ 112 ∷ [])) (Some Help)
    None)))))

abbrev pub is_digit : ℕ → Bool
is_digit b = leb 48 b && leb b 57

abbrev pub all_digits : List ℕ → Bool
all_digits [] = true
all_digits (b ∷ bs) = is_digit b && all_digits bs

-- a string of decimal digits
abbrev pub is_number : List ℕ → Bool
is_number field = ltb 0 (length field) && all_digits field

-- how many fields a word has at the least, before its tasks
abbrev pub heads : Word → ℕ
heads Supply = 3
heads Demand = 2
heads Check = 2
heads Least = 1
heads Best = 1

-- supply has three fields and no more; the tasks of the others may be any number
abbrev pub too_many : Word → ℕ → Bool
too_many Supply k = ltb 3 k
too_many Demand k = false
too_many Check k = false
too_many Least k = false
too_many Best k = false

-- the first field that is missing, too many or no string of decimal digits, of fields that are counted from k; 0 where there is none
unfoldable pub first_bad : Word → ℕ → List (List ℕ) → ℕ
first_bad w k [] = cond (leb k (heads w)) k 0
first_bad w k (f ∷ fs) = cond (too_many w k || not (is_number f)) k (first_bad w (suc k) fs)

-- every other one, with the first or without it
abbrev pub every_other : Bool → List ℕ → List ℕ
every_other t [] = []
every_other true (x ∷ xs) = x ∷ every_other false xs
every_other false (x ∷ xs) = every_other true xs

-- what the word asks in this form, with the first three numbers and the tasks; a demand is the same in both
abbrev pub question : Form → Word → ℕ → ℕ → ℕ → Work → Asked
question form Supply a b c w = supply form a b c
question form Demand a b c w = demand w a b
question form Check a b c w = check form w a b
question form Least a b c w = least form w a
question form Best a b c w = best form w a

-- a period and a cost after the other
abbrev pub tasks : List ℕ → Work
tasks ns = record { periods = every_other true ns; costs = every_other false ns }

-- what the word asks, with these numbers as its fields: its tasks stand behind its own
abbrev pub asks : Form → Word → List ℕ → Asked
asks form w ns = question form w (get_or ns 0 0) (get_or ns 1 0) (get_or ns 2 0) (tasks (drop (heads w) ns))

-- bad field and its place, unless that is 0
abbrev pub unless_bad : ℕ → List ℕ → List ℕ
unless_bad k rest = cond (eqb k 0) rest (said bad_field (k ∷ []))

abbrev pub fields_mean : Form → Option Spoken → List (List ℕ) → List ℕ
fields_mean form None fields = said bad_word []
fields_mean form (Some Help) [] = said help []
fields_mean form (Some Help) (f ∷ fs) = said bad_field (1 ∷ [])
fields_mean form (Some (Known w)) fields = unless_bad (first_bad w 1 fields) (line_of (reply_to (asks form w (map number fields))))

-- "aligned" stands before four words; the others are unknown there
abbrev pub word_in : Form → Option Spoken → Option Spoken
word_in ordinary spoken = spoken
word_in aligned (Some (Known Supply)) = Some (Known Supply)
word_in aligned (Some (Known Demand)) = None
word_in aligned (Some (Known Check)) = Some (Known Check)
word_in aligned (Some (Known Least)) = Some (Known Least)
word_in aligned (Some (Known Best)) = Some (Known Best)
word_in aligned (Some Help) = None
word_in aligned None = None

-- a word and its fields; no piece is no word
abbrev pub pieces_mean : Form → List (List ℕ) → List ℕ
pieces_mean form [] = said bad_word []
pieces_mean form (word ∷ fields) = fields_mean form (word_in form (spoken_of word)) fields

-- "aligned"
abbrev pub is_aligned : List ℕ → Bool
is_aligned word = same word (97 ∷ 108 ∷ 105 ∷ 103 ∷ 110 ∷ 101 ∷ 100 ∷ [])

-- a word, and behind each space a field; behind "aligned" the next piece is the word. An empty line is answered nothing
abbrev pub bytes_mean : List ℕ → List ℕ
bytes_mean [] = []
bytes_mean (b ∷ bs) =
    cond (is_aligned (until 32 (b ∷ bs)))
    (pieces_mean aligned (behind 32 (b ∷ bs)))
    (pieces_mean ordinary (until 32 (b ∷ bs) ∷ behind 32 (b ∷ bs)))

-- a carriage return at the end is dropped
abbrev pub trimmed : List ℕ → List ℕ
trimmed l = cond (eqb (get_or l (length l - 1) 0) 13) (take (length l - 1) l) l

-- a line has at most 65,535 bytes
abbrev pub is_long : List ℕ → Bool
is_long l = ltb 65535 (length l)

unfoldable pub line_means : List ℕ → List ℕ
line_means l = cond (is_long l) (said bad_line []) (bytes_mean (trimmed l))

abbrev pub lines_mean : List (List ℕ) → List ℕ
lines_mean [] = []
lines_mean (l ∷ ls) = line_means l ++ lines_mean ls

-- what an input means: each newline ends a line, and so does the end
abbrev pub input_means : List ℕ → List ℕ
input_means s = lines_mean (until 10 s ∷ behind 10 s)

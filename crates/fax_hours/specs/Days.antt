-- Days of the week as texts name them. A set of days is a number with bit d for day d, where Sunday is
-- day 0.
use Rattle.std.specs.Prelude.{ℕ, Bool, ◌==◌, List, [], ◌∷◌, length, fold, codes, Option, Some, None, option_and_then, if◌then◌else◌}
use Rattle.std.specs.Int.Bits.{bit_or}
use Rattle.std.specs.Option.{option_map}
use Rattle.std.specs.Str.{str_eq_ignore_ascii_case}

-- letter case has no meaning
abbrev pub is_word : List ℕ → List ℕ → Bool
is_word text word = str_eq_ignore_ascii_case text word

-- the days of a word of two letters: Monday to Friday, or one day
unfoldable pub day_of : List ℕ → Option ℕ
day_of word =
    if is_word word (codes "wk") then Some 62
    else if is_word word (codes "su") then Some 1
    else if is_word word (codes "mo") then Some 2
    else if is_word word (codes "tu") then Some 4
    else if is_word word (codes "we") then Some 8
    else if is_word word (codes "th") then Some 16
    else if is_word word (codes "fr") then Some 32
    else if is_word word (codes "sa") then Some 64
    else None

-- the days of each word of two letters
abbrev pub words_of : List ℕ → Option (List ℕ)
words_of [] = Some []
words_of (letter ∷ []) = None
words_of (first ∷ second ∷ letters) =
    option_and_then (λ days. option_map (λ more. days ∷ more) (words_of letters)) (day_of (first ∷ second ∷ []))

-- words side by side name the union of their days
unfoldable pub joined : List ℕ → Option ℕ
joined text = option_map (fold bit_or 0) (words_of text)

-- all seven days, none, or one or more words
unfoldable pub days_of : List ℕ → Option ℕ
days_of text =
    if is_word text (codes "any") then Some 127
    else if is_word text (codes "never") then Some 0
    else if length text == 0 then None
    else joined text

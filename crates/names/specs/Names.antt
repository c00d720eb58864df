-- The lent list of names (document 02, W-202): one a line, the i-th has number i; what refuses the list, and the number of a word.
-- Assumes nothing: these are definitions.
use Rattle.std.specs.Prelude.{ℕ, suc, ◌+◌, Bool, true, false, ◌&&◌, ◌||◌, not, cond, List, [], ◌∷◌, ◌++◌, length, get_or, eqb, ltb, leb}
use Rattle.meaning.specs.Lists.{up_to, some, lowest}
use Rattle.decimal.specs.Decimal.{is_digit}

-- ---- names

-- an ASCII letter or `_`
abbrev pub is_letter : ℕ → Bool
is_letter b = (leb 65 b && leb b 90) || (leb 97 b && leb b 122) || eqb b 95

-- such, digits, `-` or `.`
abbrev pub is_name_byte : ℕ → Bool
is_name_byte b = is_letter b || is_digit b || eqb b 45 || eqb b 46

unfoldable pub all_name_bytes : List ℕ → Bool
all_name_bytes [] = true
all_name_bytes (b ∷ w) = is_name_byte b && all_name_bytes w

-- a name is an ASCII letter or `_`, then such, digits, `-` or `.`
unfoldable pub good_name : List ℕ → Bool
good_name [] = false
good_name (b ∷ w) = is_letter b && all_name_bytes w

-- are two words equal, byte by byte?
unfoldable pub same : List ℕ → List ℕ → Bool
same [] [] = true
same [] (c ∷ v) = false
same (b ∷ w) [] = false
same (b ∷ w) (c ∷ v) = eqb b c && same w v

-- where a word stands first in a list of words, from 0; the length where it doesn't
unfoldable pub position : List (List ℕ) → List ℕ → ℕ
position [] w = 0
position (v ∷ vs) w =
    let r : ℕ = suc (position vs w) in
    cond (same v w) 0 r

-- ---- the list

-- the most names of a list
abbrev pub most_names : ℕ
most_names = 65535

-- each name is ended by a line feed; bytes behind the last line feed are one more line, and a malformed name whatever they are: an empty one
unfoldable pub lines_from : List ℕ → List ℕ → List (List ℕ)
lines_from [] [] = []
lines_from (b ∷ line) [] = [] ∷ []
lines_from line (c ∷ rest) = cond (eqb c 10) (line ∷ lines_from [] rest) (lines_from (line ++ (c ∷ [])) rest)

unfoldable pub names_of : List ℕ → List (List ℕ)
names_of list = lines_from [] list

-- the line with number i + 1 is malformed, repeats an earlier one, or is the 65,536th
unfoldable pub bad_line : List (List ℕ) → ℕ → Bool
bad_line names i = not (good_name (get_or names i [])) || ltb (position names (get_or names i [])) i || leb most_names i

-- is the list refused?
unfoldable pub bad_names : List (List ℕ) → Bool
bad_names names = some (bad_line names) (up_to (length names))

-- the first such line, from 1
unfoldable pub bad_line_number : List (List ℕ) → ℕ
bad_line_number names = lowest (bad_line names) (length names) + 1

-- is the word in the list? Its number is then its place from 1
unfoldable pub is_named : List (List ℕ) → List ℕ → Bool
is_named names w = ltb (position names w) (length names)

unfoldable pub number_of : List (List ℕ) → List ℕ → ℕ
number_of names w = position names w + 1

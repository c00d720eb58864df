-- Cases of document 02's W-202 and of its readings, as two tables: for a list the first bad line, or 0; and words with their numbers in a
-- list of three names.
-- Assumes nothing: each answer is computed from the definitions.
use Prim.Native.Nat.{ℕ}
use Prim.Native.String.{String}
use mathlib.Core.Path.{◌≡◌, refl}
use mathlib.Core.Bool.{cond}
use mathlib.Core.List.{List, [], ◌∷◌, map}
use Rattle.meaning.specs.Lists.{up_to, some, lowest}
use Rattle.decimal.specs.Decimal.{ascii}
use Rattle.names.specs.Names.{all_name_bytes, good_name, same, position, lines_from, names_of}
use Rattle.names.specs.Names.{bad_line, bad_names, bad_line_number, is_named, number_of}

-- a text, and the number that belongs to it
pub data Case : Type 0 where
  case : String → ℕ → Case

abbrev pub listed : Case → ℕ
listed (case text number) = number

-- the first bad line of a list, from 1, or 0
abbrev pub refused : Case → ℕ
refused (case list line) = cond (bad_names (names_of (ascii list))) (bad_line_number (names_of (ascii list))) 0

-- nothing; good names, letters of either case, any name; no line feed at the end; an empty line; a repeated name, also the first of two; one
-- that is not ended either; a digit, `-` or `.` first; a space, a carriage return, a tab, a colon
abbrev pub lists : List Case
lists =
    case "" 0
    ∷ case "a\n" 0
    ∷ case "a\nA\n" 0
    ∷ case "_\nb-1.2\nand\nprocessing-instruction\n" 0
    ∷ case "a" 1
    ∷ case "a\nb" 2
    ∷ case "\n" 1
    ∷ case "a\n\n" 2
    ∷ case "a\nb\na\n" 3
    ∷ case "a\nb\nb\na\n" 3
    ∷ case "a\na" 2
    ∷ case "1\n" 1
    ∷ case "-a\n" 1
    ∷ case ".a\n" 1
    ∷ case "a \n" 1
    ∷ case "a\r\n" 1
    ∷ case "a\nb\tc\n" 2
    ∷ case "a:b\n" 1
    ∷ []

pub lists_refused : map refused lists ≡ map listed lists
unfolding names_of lines_from bad_names bad_line_number bad_line good_name all_name_bytes same position up_to some lowest
lists_refused = refl

-- the number of a word in a list, or 0
abbrev pub numbered : Case → ℕ
numbered (case word number) =
    cond (is_named (names_of (ascii "a\nfloor\nb\n")) (ascii word)) (number_of (names_of (ascii "a\nfloor\nb\n")) (ascii word)) 0

-- the three; others, in capitals, shorter and longer, none at all; bytes with a line feed among them
abbrev pub words : List Case
words =
    case "a" 1
    ∷ case "floor" 2
    ∷ case "b" 3
    ∷ case "c" 0
    ∷ case "A" 0
    ∷ case "floo" 0
    ∷ case "floors" 0
    ∷ case "" 0
    ∷ case "a\nfloor" 0
    ∷ []

pub words_numbered : map numbered words ≡ map listed words
unfolding names_of lines_from is_named number_of same position
words_numbered = refl

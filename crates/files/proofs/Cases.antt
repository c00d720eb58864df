-- Cases of document 02's W-201 and of its readings, as a single table under a single statement: for a file and a room the number and the place.
-- And the ten lines of document 02 are the bytes of its two rows.
-- Assumes nothing: each answer is computed from the definitions, by `form_of`, which is a file's form (`form_of_lem`).
use Prim.Native.Nat.{ℕ}
use Prim.Native.String.{String}
use mathlib.Core.Path.{◌≡◌, refl}
use mathlib.Core.List.{List, [], ◌∷◌, map}
use Rattle.meaning.specs.Lists.{up_to, some, lowest}
use Rattle.meaning.specs.Table.{length_within, has_element, good_root, good_name, good_size, nearest, good_parent, text_of_root, element_of_root, later_element, previous_sibling, text_after_text, good_row, broken, stray_attribute, attribute_again, among_attributes, same_attribute}
use Rattle.meaning.specs.Answers.{answer, table_checks}
use Rattle.meaning.specs.declared.Answer.{Answer}
use Rattle.decimal.specs.Decimal.{ascii, digits_of, digits, leading, number_from, plain, decimal_at}
use Rattle.files.specs.Files.{line, key, number_lines, joined, bytes_of}
use Rattle.files.specs.Answers.{reading}
use Rattle.files.specs.Parts.{begins}
use Rattle.files.proofs.Computed.{ended, line_at, counted, head_of, onwards, numbers_from, from_head, form_of}

-- a root with one element is, whole, ten lines
pub ten_lines : bytes_of (0 ∷ 0 ∷ 0 ∷ 1 ∷ 1 ∷ 1 ∷ 0 ∷ 0 ∷ []) ≡ ascii "edition=1\nnodes=2\nkind=0\nname=0\nparent=0\nsize=1\nkind=1\nname=1\nparent=0\nsize=0\n"
unfolding bytes_of joined number_lines key line digits digits_of
ten_lines = refl

-- a file, a room, and the number and place that reading it gives
pub data Case : Type 0 where
  case : String → ℕ → ℕ → ℕ → Case

abbrev pub given : Case → Answer
given (case file room number place) = reading (form_of (ascii file)) room

abbrev pub listed : Case → Answer
listed (case file room number place) = answer number place

-- the ten lines; room for 7; another edition, a leading zero in it, carriage returns, nothing; counts outside the limits or too large; numbers
-- that are too large, have a leading zero, a sign, no digit, a space; a line lost; lines in another order; the last one missing, or its line
-- feed; a line feed or a byte too many; a count that does not fit; rows that are broken, with room and without
abbrev pub cases : List Case
cases =
    case "edition=1\nnodes=2\nkind=0\nname=0\nparent=0\nsize=1\nkind=1\nname=1\nparent=0\nsize=0\n" 8 0 8
    ∷ case "edition=1\nnodes=2\nkind=0\nname=0\nparent=0\nsize=1\nkind=1\nname=1\nparent=0\nsize=0\n" 7 21 8
    ∷ case "edition=2\nnodes=2\nkind=0\nname=0\nparent=0\nsize=1\nkind=1\nname=1\nparent=0\nsize=0\n" 8 20 1
    ∷ case "edition=01\nnodes=2\nkind=0\nname=0\nparent=0\nsize=1\nkind=1\nname=1\nparent=0\nsize=0\n" 8 20 1
    ∷ case "edition=1\r\nnodes=2\r\nkind=0\r\nname=0\r\nparent=0\r\nsize=1\r\nkind=1\r\nname=1\r\nparent=0\r\nsize=0\r\n" 8 20 1
    ∷ case "" 8 20 1
    ∷ case "edition=1\nnodes=0\nkind=0\nname=0\nparent=0\nsize=1\nkind=1\nname=1\nparent=0\nsize=0\n" 8 20 2
    ∷ case "edition=1\nnodes=8193\nkind=0\nname=0\nparent=0\nsize=1\nkind=1\nname=1\nparent=0\nsize=0\n" 8 20 2
    ∷ case "edition=1\nnodes=4294967298\nkind=0\nname=0\nparent=0\nsize=1\nkind=1\nname=1\nparent=0\nsize=0\n" 8 20 2
    ∷ case "edition=1\nnodes=2\nkind=4294967296\nname=0\nparent=0\nsize=1\nkind=1\nname=1\nparent=0\nsize=0\n" 8 20 3
    ∷ case "edition=1\nnodes=2\nkind=18446744073709551616\nname=0\nparent=0\nsize=1\nkind=1\nname=1\nparent=0\nsize=0\n" 8 20 3
    ∷ case "edition=1\nnodes=2\nkind=00\nname=0\nparent=0\nsize=1\nkind=1\nname=1\nparent=0\nsize=0\n" 8 20 3
    ∷ case "edition=1\nnodes=2\nkind=+1\nname=0\nparent=0\nsize=1\nkind=1\nname=1\nparent=0\nsize=0\n" 8 20 3
    ∷ case "edition=1\nnodes=2\nkind=\nname=0\nparent=0\nsize=1\nkind=1\nname=1\nparent=0\nsize=0\n" 8 20 3
    ∷ case "edition=1\nnodes=2\nkind=1 \nname=0\nparent=0\nsize=1\nkind=1\nname=1\nparent=0\nsize=0\n" 8 20 3
    ∷ case "edition=1\nnodes=2\nkind=0\nparent=0\nsize=1\nkind=1\nname=1\nparent=0\nsize=0\n" 8 20 4
    ∷ case "nodes=2\nedition=1\nkind=0\nname=0\nparent=0\nsize=1\nkind=1\nname=1\nparent=0\nsize=0\n" 8 20 1
    ∷ case "edition=1\nnodes=2\nname=0\nkind=0\nparent=0\nsize=1\nkind=1\nname=1\nparent=0\nsize=0\n" 8 20 3
    ∷ case "edition=1\nnodes=2\nkind=0\nname=0\nparent=0\nsize=1\nkind=1\nname=1\nparent=0\n" 8 20 10
    ∷ case "edition=1\nnodes=2\nkind=0\nname=0\nparent=0\nsize=1\nkind=1\nname=1\nparent=0\nsize=0" 0 20 10
    ∷ case "edition=1\nnodes=2\nkind=0\nname=0\nparent=0\nsize=1\nkind=1\nname=1\nparent=0\nsize=0\n\n" 8 20 11
    ∷ case "edition=1\nnodes=2\nkind=0\nname=0\nparent=0\nsize=1\nkind=1\nname=1\nparent=0\nsize=0\nx" 8 20 11
    ∷ case "edition=1\nnodes=3\nkind=0\nname=0\nparent=0\nsize=1\nkind=1\nname=1\nparent=0\nsize=0\n" 8 20 11
    ∷ case "edition=1\nnodes=1\nkind=0\nname=0\nparent=0\nsize=1\nkind=1\nname=1\nparent=0\nsize=0\n" 8 20 7
    ∷ case "edition=1\nnodes=2\nkind=0\nname=0\nparent=0\nsize=1\nkind=7\nname=1\nparent=0\nsize=0\n" 8 2 0
    ∷ case "edition=1\nnodes=2\nkind=0\nname=0\nparent=0\nsize=1\nkind=1\nname=0\nparent=0\nsize=0\n" 8 2 1
    ∷ case "edition=1\nnodes=2\nkind=0\nname=0\nparent=0\nsize=1\nkind=1\nname=70000\nparent=0\nsize=0\n" 7 21 8
    ∷ case "edition=1\nnodes=2\nkind=0\nname=0\nparent=0\nsize=1\nkind=1\nname=1\nparent=0\nsize=4294967295\n" 8 2 1
    ∷ []

-- the definitions give what the documents list
pub files_of_the_readings : map given cases ≡ map listed cases
unfolding reading form_of from_head head_of counted numbers_from onwards line_at ended begins decimal_at leading number_from plain key table_checks length_within some up_to lowest broken good_root has_element good_row good_name good_size good_parent nearest text_of_root later_element element_of_root text_after_text previous_sibling stray_attribute attribute_again among_attributes same_attribute
files_of_the_readings = refl

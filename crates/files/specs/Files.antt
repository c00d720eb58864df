-- Table files (document 02, W-201): key=value lines in a fixed order, each ended by one line feed. One definition, the bytes of a table, says
-- what a good file is, and so which line of another is the first bad one. The most rows are a parameter: 4,096 before W-211, now `most_rows`.
-- Assumes nothing: these are definitions.
use Rattle.std.specs.Prelude.{ℕ, ◌+◌, ◌%◌, ◌<◌, ◌≡◌, Bool, ◌&&◌, not, cond, List, [], ◌∷◌, ◌++◌, take, T, ltb, eqb}
use Prim.Native.String.{String}
use Rattle.meaning.specs.Lists.{some}
use Rattle.meaning.specs.Table.{rows, length_within}
use Rattle.decimal.specs.Decimal.{ascii, digits, most_number}

-- ---- the bytes of a table

-- a line: key=value, ended by one line feed
unfoldable pub line : String → ℕ → List ℕ
line key n = ascii key ++ ascii "=" ++ digits n ++ ascii "\n"

-- the key of number i of a table: kind, name, parent and size in turn
unfoldable pub key : ℕ → String
key i = cond (eqb (i % 4) 0) "kind" (cond (eqb (i % 4) 1) "name" (cond (eqb (i % 4) 2) "parent" "size"))

-- the lines of a table's numbers, from number i on
unfoldable pub number_lines : ℕ → List ℕ → List (List ℕ)
number_lines i [] = []
number_lines i (n ∷ more) = line (key i) n ∷ number_lines (i + 1) more

-- the lines of a table: edition=1, nodes=, then kind=, name=, parent= and size= of each row
abbrev pub table_lines : List ℕ → List (List ℕ)
table_lines t = line "edition" 1 ∷ (line "nodes" (rows t) ∷ number_lines 0 t)

-- lines one behind the other
unfoldable pub joined : List (List ℕ) → List ℕ
joined [] = []
joined (l ∷ more) = l ++ joined more

-- the bytes of a table
unfoldable pub bytes_of : List ℕ → List ℕ
bytes_of t = joined (table_lines t)

-- ---- the lines of a file

-- a byte in front of the first line
unfoldable pub onto : ℕ → List (List ℕ) → List (List ℕ)
onto b [] = (b ∷ []) ∷ []
onto b (l ∷ more) = (b ∷ l) ∷ more

-- the lines of a file, each with the line feed that ends it; bytes behind the last line feed are an unended line
unfoldable pub lines_of : List ℕ → List (List ℕ)
lines_of [] = []
lines_of (b ∷ s) = cond (eqb b 10) ((b ∷ []) ∷ lines_of s) (onto b (lines_of s))

-- ---- good files and bad lines

-- rows that a file can hold: 1 to so many of them, and numbers up to 4,294,967,295
unfoldable pub holdable : ℕ → List ℕ → Bool
holdable most t = length_within most t && not (some (ltb most_number) t)

-- the form of a file: it is good and holds these rows, or its first bad line has this number, from 1
pub data Form : Type 0 where
  good : List ℕ → Form
  bad : ℕ → Form

-- do the first k lines of a file open the file of some rows?
abbrev pub Opens : ℕ → List ℕ → ℕ → Type 0
Opens most file k = (t : List ℕ) × T (holdable most t) × (take k (lines_of file) ≡ take k (table_lines t))

-- a file is good if it is the bytes of some rows; its first bad line is the first at which it parts from every such file: with the lines
-- before it a file opens, and with it as well none does
unfoldable pub HasForm : ℕ → List ℕ → Form → Type 0
HasForm most file (good t) = T (holdable most t) × (file ≡ bytes_of t)
HasForm most file (bad k) = ((j : ℕ) → j < k → Opens most file j) × (Opens most file k → ⊥)

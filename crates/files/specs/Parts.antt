-- The parts of a table file as the code reads and writes them: a line by the bytes of its key, the lines before a number, what is read so far.
-- Assumes nothing: these are definitions.
use Rattle.std.specs.Prelude.{ℕ, ◌<◌, ◌≤◌, ◌≡◌, Bool, true, false, ◌&&◌, List, [], ◌∷◌, ◌++◌, length, take, drop, T, eqb, Option, None, Some, Result, Ok, Err}
use Rattle.meaning.specs.Table.{rows, most_rows}
use Rattle.decimal.specs.Decimal.{ascii, digits, most_number}
use Rattle.files.specs.declared.FileRefusal.{FileRefusal}
use Rattle.files.specs.declared.FileRefusal.TheVariants.{BadLine}
use Rattle.files.specs.Files.{line, number_lines, joined, holdable, good, bad, HasForm}

-- does a text begin with these bytes?
unfoldable pub begins : List ℕ → List ℕ → Bool
begins [] text = true
begins (b ∷ word) [] = false
begins (b ∷ word) (c ∷ text) = eqb b c && begins word text

-- a line by the bytes of its key, the = among them
abbrev pub keyed : List ℕ → ℕ → List ℕ
keyed word n = word ++ digits n ++ ascii "\n"

-- what reading a line of this key at index i of a file finds: its number and the index behind the line, or that no such line stands there
unfoldable pub LineAt : List ℕ → List ℕ → ℕ → Option (ℕ × ℕ) → Type 0
LineAt word file i (Some (n, next)) = (n ≤ most_number) × (next ≤ length file) × (drop i file ≡ keyed word n ++ drop next file)
LineAt word file i None = (n : ℕ) (rest : List ℕ) → n ≤ most_number → drop i file ≡ keyed word n ++ rest → ⊥

-- the first two lines of a table
abbrev pub heading : List ℕ → List (List ℕ)
heading t = line "edition" 1 ∷ (line "nodes" (rows t) ∷ [])

-- the lines of a table before that of number i
abbrev pub lines_before : ℕ → List ℕ → List (List ℕ)
lines_before i t = heading t ++ number_lines 0 (take i t)

-- the lines before number i have been read, and the rest of the file stands from index at on
pub record Passed (file : List ℕ) (at i : ℕ) (t : List ℕ) : Type 0 where
  pub holds : T (holdable most_rows t)
  pub inside : at ≤ length file
  pub passed : file ≡ joined (lines_before i t) ++ drop at file

-- a file's first bad line is refused
abbrev pub BadLineOf : List ℕ → FileRefusal → Type 0
BadLineOf file r = (k : ℕ) × (r ≡ BadLine k) × HasForm most_rows file (bad k)

-- the first two lines: they are good, for so many rows, and the rest stands from index at on; or one of them is bad
unfoldable pub HeadOf : List ℕ → Result (ℕ × ℕ) FileRefusal → Type 0
HeadOf file (Ok (n, at)) =
    (0 < n) × (n ≤ most_rows) × (at ≤ length file) × (file ≡ (line "edition" 1 ++ line "nodes" n) ++ drop at file)
HeadOf file (Err r) = BadLineOf file r

-- all numbers: they are those of the file, which is good; or a line is bad
unfoldable pub NumbersOf : List ℕ → Result Unit FileRefusal → List ℕ → Type 0
NumbersOf file (Ok u) t = HasForm most_rows file (good t)
NumbersOf file (Err r) t = BadLineOf file r

-- The end of the reader: what was composed is checked against the limits and the rooms, and handed over.
-- Assumes nothing: these are definitions.
use Rattle.std.specs.Prelude.{ℕ, ◌*◌, ◌≡◌, true, cond, List, [], eqb, ltb, length, take, Float}
use Rattle.meaning.specs.Rows.{most_path_rows, most_literals}
use Rattle.meaning.specs.Tree.{most_depth}
use Rattle.meaning.specs.Answers.{answer, check}
use Rattle.meaning.specs.declared.Answer.{Answer}
use Rattle.text.specs.Tokens.{classes_of}
use Rattle.text.specs.Machine.{accepts}
use Rattle.text.specs.Growing.{syntax_of}
use Rattle.text.specs.Limited.{source, text_faults}
use Rattle.text.specs.Reading.{inside, output_of}
use Rattle.text.specs.Forms.{form_of}

-- nothing is wrong in a text: it is of the grammar, and without faults
pub record Clean (text list : List ℕ) : Type 0 where
  pub accepted : accepts (classes_of text) ≡ true
  pub formed : form_of text ≡ inside (syntax_of (classes_of text))
  pub faultless : text_faults (source text list) (syntax_of (classes_of text)) ≡ []

-- so many rows, literals and paths around each other, and rooms for so many numbers and literals
unfoldable pub handed : ℕ → ℕ → ℕ → ℕ → ℕ → Answer
handed rows literals depth room literalRoom =
    check (ltb most_path_rows rows) 3 0
    (check (ltb most_literals literals) 4 most_literals
    (check (ltb most_depth depth) 6 0
    (check (ltb room (5 * rows)) 21 (5 * rows)
    (check (ltb literalRoom literals) 27 literals
    (answer 0 rows)))))

-- the literals are told on 0 alone
unfoldable pub literals_told : Answer → ℕ → ℕ
literals_told r literals = cond (eqb r.number 0) literals 0

-- what was composed is handed over: so many rows of what was drafted, and so many of the values
pub record Hands (count held depth : ℕ) (drafted : List ℕ) (values : List Float) (rows : List ℕ) (out : List Float) (r : Answer) (told : ℕ) (rows' : List ℕ) (out' : List Float) : Type 0 where
  pub answers : r ≡ handed count held depth (length rows) (length out)
  pub tells : told ≡ literals_told r held
  pub writes : rows' ≡ output_of r (take (5 * count) drafted) rows
  pub writes_literals : out' ≡ output_of r (take held values) out

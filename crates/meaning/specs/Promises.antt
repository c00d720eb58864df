-- The promises of the public functions, by name (document 01, "How tight the promises are"). A contract cites its function's promise, and so
-- does the theorem that any two outcomes that it allows are equal (proofs/Unique.antt): neither can say less than the other.
-- Assumes nothing: these are definitions.
use Rattle.std.specs.Prelude.{ℕ, ◌+◌, ◌*◌, ◌<◌, ◌≡◌, List, length, Float}
use Rattle.std.specs.Borrow.{Bor}
use Rattle.meaning.specs.Answers.{table_answer, axis_place, path_answer, evaluation, evaluated, turning, turned_output}
use Rattle.meaning.specs.View.{begins, viewed, part_of}
use Rattle.meaning.specs.declared.Answer.{Answer}
use Rattle.meaning.specs.declared.Part.{Part}

-- `table_check::check_table`: its answer is r
abbrev pub ChecksTable : List ℕ → Answer → Type 0
ChecksTable t r = r ≡ table_answer t

-- `place::axis_place`: the place of y on the axis with this number of x is r
abbrev pub AnswersPlace : List ℕ → ℕ → ℕ → ℕ → ℕ → Type 0
AnswersPlace t axis x y r = r ≡ axis_place t axis x y

-- `path_check::check_path`: its answer is r
abbrev pub ChecksPath : List ℕ → List Float → Answer → Type 0
ChecksPath p literals r = r ≡ path_answer p literals

-- `select::evaluate`: its answer is r, and what was out is out'
abbrev pub EvaluatesPath : ℕ → List ℕ → List ℕ → List Float → ℕ → List ℕ → Answer → List ℕ → Type 0
EvaluatesPath edition t p literals start out r out' = (r ≡ evaluation edition t p literals start (length out)) × (out' ≡ evaluated edition t p literals start out)

-- `turn::turn`: its answer is r, and what was out is out'
abbrev pub TurnsPath : List ℕ → List Float → List ℕ → Answer → List ℕ → Type 0
TurnsPath p literals out r out' = (r ≡ turning p literals (length out)) × (out' ≡ turned_output p literals out)

-- `view::ends_of`: where the part begins and how long it is
abbrev pub FindsPart : List ℕ → List ℕ → ℕ → Part → Type 0
FindsPart t l v r = r ≡ part_of t l v

-- `view::view`: the slice r holds the part's entries and, where there are some, points into the slice l, past the entries before the part,
-- which have 4 bytes each
pub record ShowsPart (t : List ℕ) (l : Bor (List ℕ)) (v : ℕ) (r : Bor (List ℕ)) : Type 0 where
  pub entries : r.now ≡ viewed t l.now v
  pub block : 0 < length r.now → r.ref_ptr.0 ≡ l.ref_ptr.0
  pub offset : 0 < length r.now → r.ref_ptr.1 ≡ l.ref_ptr.1 + 4 * begins l.now v

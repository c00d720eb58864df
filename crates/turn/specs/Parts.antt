-- The parts of a turned path as the code writes them: a step behind rows that stand already, and the chain of steps.
-- Assumes nothing: these are definitions.
use Rattle.std.specs.Prelude.{ℕ, ◌+◌, ◌-◌, ◌*◌, ◌<◌, ◌≤◌, ◌≡◌, List, ◌++◌, length, Option, MatchOption}
use Rattle.meaning.specs.declared.Op.TheVariants.{Relative, Step}
use Rattle.meaning.specs.Rows.{op_at, rows_of, most_path_rows}
use Rattle.meaning.specs.Tree.{Tree, none, node}
use Rattle.meaning.specs.Turning.{predicates, test, back, weight, link, row, written}
use Rattle.meaning.specs.Answers.{path_tree}

-- the number from 1 of a first step is n, where there is one and n is not 0; it is at most the chain's link
abbrev pub First : Option ℕ → ℕ → ℕ → Type 0
First o n last = MatchOption o (n ≡ 0) (λ k. (k ≡ n) × (0 < k) × (k ≤ last))

-- n rows are allowed, and the output holds them
pub record Room (out : List ℕ) (n : ℕ) : Type 0 where
  pub few : n ≤ most_path_rows
  pub holds : 5 * n ≤ length out

-- a relative path, all of whose rows hang together, with room for one row more
pub record Turnable (p out : List ℕ) : Type 0 where
  pub there : 0 < rows_of p
  pub relative : op_at p (rows_of p - 1) ≡ Relative
  pub whole : weight (path_tree p) ≡ rows_of p
  pub room : Room out (rows_of p + 1)

-- one more step behind n rows: the predicates of the chain's last step, then the step itself, with its test
unfoldable pub step_rows : ℕ → Tree → ℕ → List ℕ
step_rows n s axis = written n (predicates s) ++ row Step n (link n (predicates s)) axis (test s)

-- the steps of the turned path
unfoldable pub chain : Tree → Tree
chain s = back s (node Step none (predicates s) 0 (test s))

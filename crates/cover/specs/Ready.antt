-- What the evaluator's private functions ask of a table and a link.
-- Assumes nothing: these are definitions.
use Rattle.std.specs.Prelude.{ℕ, ◌≤◌, List}
use Rattle.meaning.specs.Table.{rows, most_rows}
use Rattle.meaning.specs.Rows.{most_path_rows}
use Rattle.reach.specs.Reach.{Rooted}

-- the table is not longer than the buffers, its parents are rows, and the link names a row that a path may have
pub record Ready (t : List ℕ) (l : ℕ) : Type 0 where
  pub small : rows t ≤ most_rows
  pub low : l ≤ most_path_rows
  pub parents : Rooted t

-- `path_check::lowest_broken_row` meets its contract. The invariant: no row passed is broken, and it is their links that are marked.
-- Assumes nothing.
use Rattle.std.proofs.Common.{◌≡◌}
use Rattle.meaning.specs.Rows.{broken_row}
use Rattle.meaning.proofs.Checks.{Passed}
use Rattle.path_check.proofs.lowest_broken_row.Given as goal

abbrev pub invariant-loop-row : goal.invariant-loop-row
invariant-loop-row l = (l.lower.rows ≡ l.row) × (l.lower.path.now ≡ l.rows.path.now) × Passed (broken_row l.rows.path.now l.literals) l.row

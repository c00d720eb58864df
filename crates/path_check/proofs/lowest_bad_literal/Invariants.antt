-- `path_check::lowest_bad_literal` meets its contract. The invariant: every literal passed is allowed, so at most 64 were passed.
-- Assumes nothing.
use Rattle.std.proofs.Common.{◌≤◌}
use Rattle.meaning.specs.Rows.{bad_literal_at}
use Rattle.meaning.proofs.Checks.{Passed}
use Rattle.path_check.proofs.lowest_bad_literal.Given as goal

abbrev pub invariant-loop-i : goal.invariant-loop-i
invariant-loop-i l = (l.i ≤ 64) × Passed (bad_literal_at l.literals) l.i

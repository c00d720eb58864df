-- `marks::count_marks` meets its contract. The loop's invariant: m is how many are marked of the rows passed.
-- Assumes nothing.
use Rattle.std.proofs.Common.{◌≤◌}
use Rattle.meaning.proofs.Marks.{Counted}
use Rattle.marks.proofs.count_marks.Given as goal

abbrev pub invariant-loop-marked : goal.invariant-loop-marked
invariant-loop-marked l = (l.m ≤ l.marked-index) × Counted l.fn.marks l.m l.marked-index

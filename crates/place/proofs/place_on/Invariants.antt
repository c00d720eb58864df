-- `place::place_on` meets its contract. The loop's invariant: as many of the first i rows of the axis's order are on the axis as were
-- counted.
-- Assumes nothing.
use Rattle.std.proofs.Common.{◌≤◌}
use Rattle.meaning.specs.Axis.{on, ordered}
use Rattle.meaning.proofs.Filters.{Tallied}
use Rattle.place.proofs.place_on.Given as goal

abbrev pub invariant-loop-i : goal.invariant-loop-i
invariant-loop-i l =
    (l.before ≤ l.i) × Tallied (on l.table l.axis l.x) (ordered l.reverse l.n) l.before l.i

-- `reach::mark_before` meets its contract: the rows passed are marked exactly if they are reached, and the others as they were.
-- Assumes nothing.
use Rattle.std.proofs.Common.{◌&&◌}
use Rattle.meaning.specs.Axis.{after}
use Rattle.meaning.proofs.Marks.{Wrote}
use Rattle.reach.specs.Reach.{hit, admitted}
use Rattle.reach.proofs.mark_before.Given as goal

abbrev pub invariant-loop-i : goal.invariant-loop-i
invariant-loop-i l = Wrote (hit l.table (λ x y. (admitted l.table l.fn.given x && after l.table y x) && admitted l.table l.taken y) l.initial.marks) l.initial.marks l.marks l.i

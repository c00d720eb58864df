-- `reach::mark_under` meets its contract: the rows passed are marked exactly if their parent was, whose mark is not written yet, since no
-- parent stands after its child, and they are taken.
-- Assumes nothing.
use Rattle.std.proofs.Common.{◌&&◌}
use Rattle.meaning.specs.Table.{rows}
use Rattle.meaning.specs.Axis.{under}
use Rattle.meaning.proofs.Marks.{WroteDown}
use Rattle.reach.specs.Reach.{hit, admitted}
use Rattle.reach.proofs.mark_under.Given as goal

abbrev pub invariant-loop-i : goal.invariant-loop-i
invariant-loop-i l = WroteDown (hit l.table (λ x y. under l.table x y && admitted l.table l.taken y) l.initial.marks) (rows l.table) l.initial.marks l.marks l.i

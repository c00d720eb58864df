-- `marks::list_marks` meets its contract. The loop's invariant: the first m of the list are what is marked below y, the rest is as
-- it was. A marked row finds room, since all of them have it.
-- Assumes nothing.
use Rattle.std.proofs.Common.{◌≤◌}
use Rattle.meaning.proofs.Marks.{Counted, Listing}
use Rattle.marks.proofs.list_marks.Given as goal

abbrev pub invariant-loop-y : goal.invariant-loop-y
invariant-loop-y l = (l.m ≤ l.y) × Counted l.fn.marks l.m l.y × Listing l.fn.marks l.initial.list l.list l.m l.y

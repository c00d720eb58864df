-- `reach::mark_inside` meets its contract: a number is below far exactly if it is not past the end of a marked row passed; the rows passed
-- are marked exactly if they are reached, and the others as they were.
-- Assumes nothing.
use Rattle.std.proofs.Common.{◌+◌, ◌&&◌, ◌||◌, ltb, eqb}
use Rattle.meaning.specs.Lists.{up_to}
use Rattle.meaning.specs.Table.{end}
use Rattle.meaning.specs.Axis.{inside}
use Rattle.meaning.proofs.Marks.{Wrote}
use Rattle.reach.specs.Reach.{hit, admitted, beyond}
use Rattle.reach.proofs.Sweep.{Gathered, marked}
use Rattle.reach.proofs.mark_inside.Given as goal

abbrev pub invariant-loop-i : goal.invariant-loop-i
invariant-loop-i l =
    Gathered (beyond + 1) (λ x z. ltb z (end l.table x + 1)) (marked l.initial.marks) (up_to l.i) (λ z. ltb z l.far)
    × Wrote (hit l.table (λ x y. (l.own && eqb x y) || (inside l.table x y && admitted l.table l.taken y)) l.initial.marks) l.initial.marks l.marks l.i

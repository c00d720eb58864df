-- `reach::mark_around` meets its contract: a number is above near exactly if a row passed that gives is below it; the rows passed are marked
-- exactly if they are reached, and the others as they were.
-- Assumes nothing.
use Rattle.std.proofs.Common.{◌+◌, ◌-◌, ◌&&◌, ◌||◌, ltb, eqb}
use Rattle.meaning.specs.Table.{rows}
use Rattle.meaning.specs.Axis.{inside}
use Rattle.meaning.proofs.Windows.{up_from}
use Rattle.meaning.proofs.Marks.{WroteDown}
use Rattle.reach.specs.Reach.{hit, admitted, beyond}
use Rattle.reach.proofs.Sweep.{Gathered, giving}
use Rattle.reach.proofs.mark_around.Given as goal

abbrev pub invariant-loop-i : goal.invariant-loop-i
invariant-loop-i l =
    Gathered (beyond + 1) ltb (giving l.initial.marks (admitted l.table l.given)) (up_from l.i (rows l.table - l.i)) (λ z. ltb l.near z)
    × WroteDown (hit l.table (λ x y. (l.own && eqb x y) || (admitted l.table l.given x && inside l.table y x)) l.initial.marks) (rows l.table) l.initial.marks l.marks l.i

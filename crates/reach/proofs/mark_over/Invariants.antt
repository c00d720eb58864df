-- `reach::mark_over` meets its contract: of the rows passed those are marked that are the parent of a row passed that gives, and the others
-- are as they were; a parent is among the rows passed when its child hands it its mark.
-- Assumes nothing.
use Rattle.meaning.specs.Lists.{up_to}
use Rattle.meaning.specs.Table.{rows}
use Rattle.reach.specs.Reach.{admitted}
use Rattle.reach.proofs.Sweep.{Gathered, giving, over, Ahead, handed}
use Rattle.reach.proofs.mark_over.Given as goal

abbrev pub invariant-loop-i : goal.invariant-loop-i
invariant-loop-i l =
    Gathered (rows l.table) (over l.table) (giving l.initial.marks (admitted l.table l.given)) (up_to l.i) (handed l.i l.marks)
    × Ahead l.initial.marks l.marks l.i

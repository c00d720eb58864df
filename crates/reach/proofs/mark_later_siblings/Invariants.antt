-- `reach::mark_later_siblings` meets its contract: a row is flagged exactly if a row passed that gives has it as its parent; the rows passed
-- are marked exactly if they are reached, and the others as they were.
-- Assumes nothing.
use Rattle.std.proofs.Common.{◌≡◌, false, length, get_or}
use Rattle.meaning.specs.Lists.{up_to}
use Rattle.meaning.specs.Table.{rows, most_rows}
use Rattle.meaning.specs.Axis.{on}
use Rattle.meaning.specs.declared.Axis.TheVariants.{FollowingSibling}
use Rattle.meaning.proofs.Marks.{Wrote}
use Rattle.reach.specs.declared.Asked.TheVariants.{Plain}
use Rattle.reach.specs.Reach.{hit, admitted}
use Rattle.reach.proofs.Sweep.{Gathered, giving, over}
use Rattle.reach.proofs.mark_later_siblings.Given as goal

abbrev pub invariant-loop-i : goal.invariant-loop-i
invariant-loop-i l =
    (length l.seen ≡ most_rows)
    × Gathered (rows l.table) (over l.table) (giving l.initial.marks (admitted l.table Plain)) (up_to l.i) (λ q. get_or l.seen q false)
    × Wrote (hit l.table (on l.table FollowingSibling) l.initial.marks) l.initial.marks l.marks l.i

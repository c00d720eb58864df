-- `reach::mark_earlier_siblings` meets its contract: a row is flagged exactly if a row passed that gives has it as its parent; the rows passed
-- are marked exactly if they are reached, and the others as they were.
-- Assumes nothing.
use Rattle.std.proofs.Common.{◌≡◌, false, ◌-◌, length, get_or}
use Rattle.meaning.specs.Table.{rows, most_rows}
use Rattle.meaning.specs.Axis.{on}
use Rattle.meaning.specs.declared.Axis.TheVariants.{PrecedingSibling}
use Rattle.meaning.proofs.Windows.{up_from}
use Rattle.meaning.proofs.Marks.{WroteDown}
use Rattle.reach.specs.declared.Asked.TheVariants.{Plain}
use Rattle.reach.specs.Reach.{hit, admitted}
use Rattle.reach.proofs.Sweep.{Gathered, giving, over}
use Rattle.reach.proofs.mark_earlier_siblings.Given as goal

abbrev pub invariant-loop-i : goal.invariant-loop-i
invariant-loop-i l =
    (length l.seen ≡ most_rows)
    × Gathered (rows l.table) (over l.table) (giving l.initial.marks (admitted l.table Plain)) (up_from l.i (rows l.table - l.i)) (λ q. get_or l.seen q false)
    × WroteDown (hit l.table (on l.table PrecedingSibling) l.initial.marks) (rows l.table) l.initial.marks l.marks l.i

-- `view::is_ascending` meets its contract: the loop's invariant is that each entry below i fits.
-- Assumes nothing.
use Rattle.std.proofs.Common.{not}
use Rattle.meaning.specs.View.{entry_fits}
use Rattle.meaning.proofs.Checks.{Passed}
use Rattle.view.proofs.is_ascending.Given as goal

abbrev pub invariant-loop-i : goal.invariant-loop-i
invariant-loop-i l = Passed (λ j. not (entry_fits l.table l.list j)) l.i

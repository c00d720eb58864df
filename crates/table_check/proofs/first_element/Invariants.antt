-- `table_check::first_element` meets its contract: no row below i is an element.
-- Assumes nothing.
use Rattle.meaning.specs.Table.{is_element}
use Rattle.meaning.proofs.Checks.{Passed}
use Rattle.table_check.proofs.first_element.Given as goal

abbrev pub invariant-loop-i : goal.invariant-loop-i
invariant-loop-i l = Passed (is_element l.table) l.i

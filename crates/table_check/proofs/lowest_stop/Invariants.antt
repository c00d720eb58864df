-- `table_check::lowest_stop` meets its contract: the pass stands at the row.
-- Assumes nothing.
use Rattle.std.proofs.Common.{◌≡◌}
use Rattle.meaning.specs.Table.{rows}
use Rattle.table_check.proofs.lowest_stop.Given as goal

abbrev pub invariant-loop-row : goal.invariant-loop-row
invariant-loop-row g l = (l.pass.row ≡ l.row) × (rows l.pass.table.now ≡ rows l.table) × (l.pass.table.now ≡ l.table)

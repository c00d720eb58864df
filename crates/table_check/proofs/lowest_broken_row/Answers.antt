-- `table_check::lowest_broken_row` meets its contract: the root is the lowest broken row if it is one; else a pass stops at the lowest broken
-- row, unless it stops at a name without room, and with room for all names it does not.
-- Assumes nothing.
use Rattle.std.proofs.Common.{◌∙◌, sym, arith}
use Rattle.meaning.proofs.Bools.{untrue}
use Rattle.table_check.proofs.Next.{lowest_root}
use Rattle.table_check.proofs.Stops.{stops_at_broken}
use Rattle.table_check.proofs.Passes.{stops_broken}
use Rattle.table_check.proofs.lowest_broken_row.Goals as goal

pub returns-in_default : goal.returns-in_default
returns-in_default c = (c.requires.0, lowest_root _ c.requires.0 c.in_default.ensures)

pub returns-in_err-row : goal.returns-in_err-row
returns-in_err-row c = rw c.from_residual.ensures (stops_at_broken _ _ _ c.in_err-row.ensures (λ l u. absurd (omega arith)))

pub returns-then-is_unlisted : goal.returns-then-is_unlisted
returns-then-is_unlisted c = stops_broken _ _ c.lowest_stop-then-is_unlisted.ensures

pub returns : goal.returns
returns c =
    let e = c.in_ok-row.ensures in
    let room = sym c.is_unlisted.ensures ∙ c.if-is_unlisted.false in
    (e.0, stops_at_broken _ _ _ e.1 (λ l u. absurd (untrue room u)))

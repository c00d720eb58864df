-- `table_check::check_table` meets its contract: each outcome is the definition's check by check.
-- Assumes nothing.
use Rattle.std.proofs.Common.{◌∙◌, refl, sym, arith}
use Rattle.table_check.proofs.Next.{allowed_rows}
use Rattle.meaning.proofs.Checks.{table_length, table_row, table_whole}
use Rattle.table_check.proofs.check_table.Goals as goal

pub returns-then-not-length_allowed : goal.returns-then-not-length_allowed
returns-then-not-length_allowed c = table_length _ (sym c.length_allowed.ensures ∙ c.if-not-length_allowed.true)

pub lowest_broken_row-requires : goal.lowest_broken_row-requires
lowest_broken_row-requires c = allowed_rows _ (sym c.length_allowed.ensures ∙ c.if-not-length_allowed.false)

pub overflow_cast-result : goal.overflow_cast-result
overflow_cast-result c = omega (arith, c.in-Some.ensures, (allowed_rows _ (sym c.length_allowed.ensures ∙ c.if-not-length_allowed.false)).1)

pub overflow_cast-result-in-None : goal.overflow_cast-result-in-None
overflow_cast-result-in-None c = omega (arith, (allowed_rows _ (sym c.length_allowed.ensures ∙ c.if-not-length_allowed.false)).1)

pub returns-in-Some : goal.returns-in-Some
returns-in-Some c = let e = c.in-Some.ensures in table_row _ _ _ (sym c.length_allowed.ensures ∙ c.if-not-length_allowed.false) refl e.1 e.0

pub returns-in-None : goal.returns-in-None
returns-in-None c = table_whole _ _ _ (sym c.length_allowed.ensures ∙ c.if-not-length_allowed.false) c.row_count.ensures c.in-None.ensures (omega arith)

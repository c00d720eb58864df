-- `Rows::of` keeps its type's promise: a path whose length is allowed has at most 256 rows. Assumes nothing.
use Rattle.std.proofs.Common.{sym, ◌∙◌, arith}
use Rattle.meaning.proofs.Checks.{most_rows_lem}
use Rattle.path_check.proofs.rows.Rows.of.Goals as goal

pub invariant_of-result : goal.invariant_of-result
invariant_of-result c =
    record { counted = (c.row_count.ensures, omega (arith, most_rows_lem _ (sym c.is_length_allowed.ensures ∙ c.if-is_length_allowed.true))) }

-- `path_check::row_depth` meets its contract: a row is deeper than its links by one if it is a path.
-- Assumes nothing.
use Rattle.std.proofs.Common.{true, false, sym, refl, ◌∙◌, arith}
use Rattle.path_check.proofs.Passes.{inner_le, row_deep}
use Rattle.path_check.proofs.row_depth.Goals as goal

pub overflow_add-result : goal.overflow_add-result
overflow_add-result c = omega (arith, inner_le _ _ _ _ _ _ c.requires.2 c.first_link-a.ensures c.second_link-b.ensures c.max-inner.ensures)

pub returns-then-is_path : goal.returns-then-is_path
returns-then-is_path c = row_deep _ _ _ _ _ _ c.requires.2 c.first_link-a.ensures c.second_link-b.ensures c.max-inner.ensures true _ (sym c.if-is_path.true ∙ c.is_path.ensures ∙ rw c.op_at.ensures) refl

pub returns-else-is_path : goal.returns-else-is_path
returns-else-is_path c = row_deep _ _ _ _ _ _ c.requires.2 c.first_link-a.ensures c.second_link-b.ensures c.max-inner.ensures false _ (sym c.if-is_path.false ∙ c.is_path.ensures ∙ rw c.op_at.ensures) (omega arith)

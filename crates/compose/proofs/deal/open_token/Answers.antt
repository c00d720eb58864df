-- `compose::deal::open_token` meets its contract.
-- Assumes nothing.
use mathlib.Core.Path.{sym, ◌∙◌}
use Rattle.compose.proofs.Deals.{group_opened, group_not_opened}
use Rattle.compose.proofs.deal.open_token.Goals as goal

pub returns-then-is_beginning : goal.returns-then-is_beginning
returns-then-is_beginning c = group_opened _ _ _ _
    (sym c.is_beginning.ensures ∙ c.if-is_beginning.true)
    c.open_group.ensures

pub returns-else-is_beginning : goal.returns-else-is_beginning
returns-else-is_beginning c = group_not_opened _ _ _ (sym c.is_beginning.ensures ∙ c.if-is_beginning.false)

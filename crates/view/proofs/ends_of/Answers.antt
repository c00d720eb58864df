-- `view::ends_of` meets its contract: a list that may be viewed rises, so halving finds both ends.
-- Assumes nothing.
use mathlib.Core.Path.{◌∙◌, sym}
use Rattle.meaning.proofs.View.{viewable_rises, viewable_row, part_refused, part_none, part_some}
use borrow.Author.Rules.{rules}
use Rattle.view.proofs.ends_of.Goals as goal

pub returns-then-not-is_viewable : goal.returns-then-not-is_viewable
returns-then-not-is_viewable c = (part_refused _ _ _ (sym c.is_viewable.ensures ∙ c.if-not-is_viewable.true))

pub lower_bound-begin-requires : goal.lower_bound-begin-requires
lower_bound-begin-requires c = viewable_rises _ _ _ (sym c.is_viewable.ensures ∙ c.if-not-is_viewable.false)

pub end_at-requires : goal.end_at-requires
end_at-requires c = (viewable_row _ _ _ (sym c.is_viewable.ensures ∙ c.if-not-is_viewable.false), search rules)

pub lower_bound-end-requires : goal.lower_bound-end-requires
lower_bound-end-requires c = viewable_rises _ _ _ (sym c.is_viewable.ensures ∙ c.if-not-is_viewable.false)

pub returns-then-begin-end : goal.returns-then-begin-end
returns-then-begin-end c = (part_some _ _ _ _ _ _ c.lower_bound-begin.ensures c.end_at.ensures.0 c.lower_bound-end.ensures (sym c.is_viewable.ensures ∙ c.if-not-is_viewable.false) c.if-begin-end.true)

pub returns-else-begin-end : goal.returns-else-begin-end
returns-else-begin-end c = (part_none _ _ _ _ _ _ c.lower_bound-begin.ensures c.end_at.ensures.0 c.lower_bound-end.ensures c.if-begin-end.false)

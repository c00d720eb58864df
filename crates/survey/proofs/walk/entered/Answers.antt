-- `survey::walk::entered` meets its contract, by those of the functions that it calls.
-- Assumes nothing.
use mathlib.Core.Path.{◌∙◌}
use Rattle.survey.specs.Standing.{opened_by, Called}
use Rattle.survey.proofs.walk.entered.Goals as goal

pub store-requires : goal.store-requires
store-requires c = (rw c.level_behind.ensures c.requires.kind, rw c.level_behind.ensures c.requires.rank)

pub opened_kind-requires : goal.opened_kind-requires
unfolding Called
opened_kind-requires c = c.requires.called

pub returns : goal.returns
unfolding opened_by
returns c = (cc, c.store.ensures ∙ rw c.level_behind.ensures)

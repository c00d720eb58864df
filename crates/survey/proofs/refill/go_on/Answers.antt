-- `survey::refill::go_on` meets its contract: the trace behind a token that opens and closes nothing.
-- Assumes nothing.
use native.Mathlib.Omega.{arith}
use mathlib.Core.Path.{refl, ◌∙◌}
use Rattle.survey.proofs.Retrace.{follows_room, follows_taken, traced_goes}
use Rattle.survey.proofs.refill.go_on.Goals as goal

pub overflow_add-result : goal.overflow_add-result
overflow_add-result c = omega (arith, follows_room c.requires.0)

pub overflow_sub-result : goal.overflow_sub-result
overflow_sub-result c = omega (arith, (follows_taken c.requires.0).some)

pub returns : goal.returns
returns c = (
  traced_goes c.requires.0 _ _ _ c.requires.1
      c.is_due.ensures c.name_of.ensures
      (c.level.ensures ∙ rw c.new.ensures),
  refl,
)

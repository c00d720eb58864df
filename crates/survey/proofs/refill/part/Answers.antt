-- `survey::refill::part` meets its contract: the trace behind `,`.
-- Assumes nothing.
use native.Mathlib.Omega.{arith}
use mathlib.Core.Path.{refl}
use Rattle.survey.proofs.Retrace.{follows_room, traced_parts}
use Rattle.survey.proofs.refill.part.Goals as goal

pub overflow_add-result : goal.overflow_add-result
overflow_add-result c = omega (arith, follows_room c.requires.0)

pub returns : goal.returns
returns c = (traced_parts c.requires.0 _ c.requires.1 c.fresh.ensures, refl)

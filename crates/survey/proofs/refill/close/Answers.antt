-- `survey::refill::close` meets its contract: the trace behind a token that closes a level; there is one to close.
-- Assumes nothing.
use native.Mathlib.Omega.{arith}
use mathlib.Core.Path.{refl}
use Rattle.survey.proofs.Retrace.{follows_room, follows_taken, traced_closes}
use Rattle.survey.proofs.refill.close.Goals as goal

pub overflow_sub-depth : goal.overflow_sub-depth
overflow_sub-depth c =
    let p = c.requires in
    omega (arith, (follows_taken p.0).closing p.1, p.0.traced.deep)

pub overflow_add-result : goal.overflow_add-result
overflow_add-result c = omega (arith, follows_room c.requires.0)

pub returns : goal.returns
returns c =
    let p = c.requires in
    (traced_closes p.0 _ p.1 p.2 c.recall.ensures, refl)

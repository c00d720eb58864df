-- `survey::refill::open` meets its contract: the trace behind a token that opens a level.
-- Assumes nothing.
use native.Mathlib.Omega.{arith}
use mathlib.Core.Path.{refl, ◌∙◌}
use Rattle.survey.proofs.Retrace.{follows_room, call_named, behind_fits, traced_opens}
use Rattle.survey.proofs.refill.open.Goals as goal

pub overflow_add-result : goal.overflow_add-result
overflow_add-result c = omega (arith, follows_room c.requires.0)

pub overflow_add-result-2 : goal.overflow_add-result-2
overflow_add-result-2 c =
    let p = c.requires in
    omega (arith, follows_room p.0, p.0.traced.shallow)

pub opened_kind-requires : goal.opened_kind-requires
opened_kind-requires c = call_named c.requires.0

pub keep-requires : goal.keep-requires
keep-requires c =
    let fits = behind_fits c.requires.0 in
    (rw (c.level-left.ensures, c.new.ensures) fits.0, rw (c.level-left.ensures, c.new.ensures) fits.1)

pub returns : goal.returns
returns c = (
  traced_opens c.requires.0 _ _ _ _ _
      c.requires.1
      c.requires.2
      c.is_due.ensures c.opened_mode.ensures
      (c.level-left.ensures ∙ rw c.new.ensures)
      (c.fresh.ensures ∙ rw c.opened_kind.ensures) c.keep.ensures,
  refl,
)

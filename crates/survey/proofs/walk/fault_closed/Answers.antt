-- `survey::walk::fault_closed` meets its contract, by those of the functions that it calls.
-- Assumes nothing.
use mathlib.Core.Path.{◌∙◌}
use borrow.Author.Tests.{eq-eqb, ne_eqb}
use Rattle.survey.proofs.walk.fault_closed.Goals as goal

pub returns-then-arity-eq0 : goal.returns-then-arity-eq0
returns-then-arity-eq0 c =
    c.lowered.ensures ∙ rw (
      ← c.arity_of-arity.ensures,
      eq-eqb _ _ c.if-arity-eq0.true,
      c.is_fault_behind-wrong.ensures,
      c.level_sort.ensures,
    )

pub returns : goal.returns
returns c =
    c.lowered-2.ensures ∙ rw (
      ← c.arity_of-arity.ensures,
      ne_eqb _ _ c.if-arity-eq0.false,
      c.is_fault_behind-wrong.ensures,
      c.level_sort.ensures,
      c.end_faults.ensures,
    )

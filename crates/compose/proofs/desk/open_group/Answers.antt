-- `compose::desk::open_group` meets its contract.
-- Assumes nothing.
use native.Mathlib.Omega.{arith}
use mathlib.Core.Path.{refl}
use Rattle.text.specs.Composing.{open_group}
use Rattle.compose.specs.Standing.{Countable}
use Rattle.compose.proofs.Frames.{opened_none, opened_group}
use Rattle.compose.proofs.desk.open_group.Goals as goal

pub returns-then-height-eq0 : goal.returns-then-height-eq0
unfolding open_group
returns-then-height-eq0 c = opened_none open_group _ _ (λ p. refl) c.if-height-eq0.true

pub overflow_add-open : goal.overflow_add-open
unfolding Countable
overflow_add-open c = let few = c.requires.1 (omega arith) in record { fits = omega (arith, few) }

pub returns : goal.returns
returns c = opened_group _ _ (omega arith) (omega arith)

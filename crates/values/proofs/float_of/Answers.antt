-- `values::float_of` meets its contract: the cast is the definition's conversion, and it is exact.
-- Assumes nothing.
use mathlib.Core.Path.{refl}
use native.Mathlib.Omega.{arith}
use Rattle.meaning.specs.Meaning.{float}
use Rattle.meaning.proofs.Numbers.{float_exact}
use Rattle.values.proofs.float_of.Goals as goal

pub returns : goal.returns
unfolding float
returns c = (refl, float_exact _ (omega arith))

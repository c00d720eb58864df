-- `values::nonzero` meets its contract: the literal zero is the definition's. Assumes nothing.
use lib.Ieee
use Rattle.meaning.specs.Meaning.{nonzero, float}
use Rattle.values.proofs.nonzero.Goals as goal
use Rattle.values.proofs.nonzero.Goals.{then-is_nan, else-is_nan}

pub returns : goal.returns
unfolding nonzero float Ieee.of_int Ieee.of_bits
returns c = elim c.if-is_nan.branch [ then-is_nan w ↦ rw (w.result-is, ← c.is_nan.ensures.value, w.if-is_nan.true) | else-is_nan w ↦ rw (w.result-is, ← c.is_nan.ensures.value, w.if-is_nan.false) ]

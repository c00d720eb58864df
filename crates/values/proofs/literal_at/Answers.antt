-- `values::literal_at` meets its contract: past the end of the literals stands NaN, whose bits the constant has. Assumes nothing.
use Rattle.std.proofs.Common.{◌∙◌, arith}
use lib.Ieee
use Rattle.values.proofs.literal_at.Goals as goal

pub returns : goal.returns
unfolding Ieee.of_bits
returns c = c.unwrap_or.ensures ∙ rw c.copied.ensures (c.get.ensures.lookup.4 (omega arith) Ieee.nan)

-- `values::number_of` meets its contract: the constant's bits are NaN's. Assumes nothing.
use Rattle.std.proofs.Common.{sym, ap}
use lib.Ieee
use Rattle.meaning.specs.Meaning.{number_of}
use Rattle.values.proofs.number_of.Goals as goal

pub returns-in-Truth : goal.returns-in-Truth
unfolding Ieee.of_bits
returns-in-Truth c = sym (ap number_of c.in-Truth.is)

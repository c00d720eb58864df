-- `literals::value` meets its contract: the part is the literal, both numbers are at most 2^53, so that they are doubles exactly, and the
-- quotient is the definition's.
-- Assumes nothing.
use native.Mathlib.Omega.{arith}
use lib.Dec.{le→leb}
use lib.Ieee as Ieee
use Rattle.meaning.specs.Meaning.{float}
use Rattle.text.specs.Limited.{number_at, value_at}
use Rattle.literals.proofs.value.Goals as goal

pub int_to_float-result : goal.int_to_float-result
unfolding Ieee.in_float
int_to_float-result c = le→leb c.whole-digits.result 9007199254740992 (omega arith)

pub int_to_float-result-2 : goal.int_to_float-result-2
unfolding Ieee.in_float
int_to_float-result-2 c = le→leb c.power_of_ten-scale.result 9007199254740992 (omega arith)

pub returns : goal.returns
unfolding number_at value_at float
returns c =
    rw (c.whole-digits.ensures.0, c.power_of_ten-scale.ensures.0, c.behind_point.ensures, c.requires.2)

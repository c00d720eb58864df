-- `compose::steps::keep_value` meets its contract.
-- Assumes nothing.
use native.Mathlib.Omega.{arith}
use Rattle.compose.proofs.Values.{literal_shared, literal_new}
use Rattle.compose.proofs.steps.keep_value.Goals as goal

pub returns-then-index-n : goal.returns-then-index-n
returns-then-index-n c =
    let g = c.args in (
      literal_shared g.values.now g.n g.index g.value (omega arith) c.requires.1 c.if-index-n.true,
      omega arith,
      omega
          arith,
    )

pub returns : goal.returns
returns c =
    let g = c.args in
    (literal_new g.values.now g.n g.index g.value (omega arith) c.requires.1 c.if-index-n.false, omega arith, omega arith)

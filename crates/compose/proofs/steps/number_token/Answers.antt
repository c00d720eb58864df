-- `compose::steps::number_token` meets its contract.
-- Assumes nothing.
use native.Mathlib.Omega.{arith}
use mathlib.Core.Path.{refl}
use Rattle.compose.proofs.Values.{index_within}
use Rattle.compose.proofs.Drafts.{numbered}
use Rattle.compose.proofs.steps.number_token.Goals as goal

pub overflow_cast-index : goal.overflow_cast-index
overflow_cast-index c =
    let g = c.args in
    omega (
      arith,
      index_within g.values.now g.state.literals _ g.value (omega arith)
          c.index_of-index.ensures,
    )

pub returns : goal.returns
returns c =
    let g = c.args in
    let kept = c.keep_value-literals.ensures in (
      refl,
      λ ops opens. numbered g.state g.rows.now ops opens g.values.now g.mode _ _ g.value
          c.index_of-index.ensures kept.0 kept.2
          c.write_row-done.ensures,
    )

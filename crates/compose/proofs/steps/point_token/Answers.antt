-- `compose::steps::point_token` meets its contract.
-- Assumes nothing.
use mathlib.Core.Path.{refl}
use Rattle.compose.proofs.Drafts.{pointed}
use Rattle.compose.proofs.steps.point_token.Goals as goal

pub returns : goal.returns
returns c =
    let g = c.args in (
      refl,
      λ ops opens values. pointed g.state g.rows.now ops opens values g.mode g.axis
          c.write_row-done.ensures,
    )

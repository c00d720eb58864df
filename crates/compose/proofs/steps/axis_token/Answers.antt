-- `compose::steps::axis_token` meets its contract.
-- Assumes nothing.
use mathlib.Core.Path.{refl}
use Rattle.compose.proofs.Drafts.{axis_set}
use Rattle.compose.proofs.steps.axis_token.Goals as goal

pub returns : goal.returns
returns c = (
  refl,
  λ rows ops opens values. axis_set c.args.state rows ops opens values c.args.mode
      c.args.axis,
)

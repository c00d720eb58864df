-- `compose::steps::test_token` meets its contract.
-- Assumes nothing.
use mathlib.Core.Path.{refl}
use Rattle.compose.proofs.Drafts.{tested}
use Rattle.compose.proofs.steps.test_token.Goals as goal

pub returns : goal.returns
returns c =
    let g = c.args in (
      refl,
      λ rows values. tested g.state rows g.frames.now.ops g.frames.now.opens values g.mode g.test _
          (c.push_frame-bench.ensures rows),
    )

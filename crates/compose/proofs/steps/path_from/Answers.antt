-- `compose::steps::path_from` meets its contract.
-- Assumes nothing.
use mathlib.Core.Path.{refl, sym, ◌∙◌}
use Rattle.compose.proofs.Drafts.{path_begins, path_goes_on}
use Rattle.compose.proofs.steps.path_from.Goals as goal

pub returns-then-is_beginning : goal.returns-then-is_beginning
returns-then-is_beginning c =
    let g = c.args in
    rw c.max.ensures (
      refl,
      λ rows values. path_begins g.state rows g.frames.now.ops g.frames.now.opens values g.op _ _
          (sym c.is_beginning.ensures
          ∙ c.if-is_beginning.true)
          (c.paths_in-paths.ensures.0 g.frames.now.opens)
          (c.push_frame-bench.ensures rows),
    )

pub returns : goal.returns
returns c =
    let g = c.args in (
      refl,
      λ rows values. path_goes_on g.state rows g.frames.now.ops g.frames.now.opens values g.op
          (sym c.is_beginning.ensures ∙ c.if-is_beginning.false),
    )

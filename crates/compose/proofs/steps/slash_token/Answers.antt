-- `compose::steps::slash_token` meets its contract.
-- Assumes nothing.
use native.Mathlib.Omega.{arith}
use mathlib.Core.Path.{refl}
use mathlib.Core.List.{[]}
use borrow.Author.Rules.{rules}
use Rattle.compose.proofs.Drafts.{read_then, read_as, mode_set, as_slash, as_slashes}
use Rattle.compose.proofs.steps.slash_token.Goals as goal

pub step_ended-ended-requires : goal.step_ended-ended-requires
step_ended-ended-requires c =
    let most = (c.path_from-begun.ensures.1 [] []).most in
    (omega arith, record { light = omega (arith, most); rows_room = search rules })

pub point_token-requires : goal.point_token-requires
point_token-requires c =
    let begun = (c.path_from-begun.ensures.1 []
    []).most in
    let ended = (c.step_ended-ended.ensures []).most in
    (omega (arith, begun, ended), search rules)

pub returns-then-kind-eq-SLASHES : goal.returns-then-kind-eq-SLASHES
returns-then-kind-eq-SLASHES c =
    let g = c.args in (
      c.point_token.ensures.0,
      λ values s i.
          read_as _ 4 (read_then
          (read_then (c.path_from-begun.ensures.1 g.rows.now values) (c.step_ended-ended.ensures values)) (c.point_token.ensures.1 _ _ values))
          (as_slashes g.state g.rows.now g.frames.now.ops g.frames.now.opens values s i g.kind g.mode
          c.requires.1 c.if-kind-eq-SLASHES.true) (omega arith),
    )

pub returns : goal.returns
returns c =
    let g = c.args in (
      refl,
      λ values s i.
          read_as _ 4 (read_then
          (read_then (c.path_from-begun.ensures.1 g.rows.now values) (c.step_ended-ended.ensures values)) (mode_set c.step_ended-ended.result _ _ _ values g.mode))
          (as_slash g.state g.rows.now g.frames.now.ops g.frames.now.opens values s i g.kind g.mode
          c.requires.1 (omega (arith, c.requires.2, c.requires.3, c.if-kind-eq-SLASHES.false))) (omega arith),
    )

-- `compose::steps::step_token` meets its contract, by the class of the token.
-- Assumes nothing.
use native.Mathlib.Omega.{arith}
use mathlib.Core.List.{[]}
use mathlib.Core.Path.{◌≡◌}
use mathlib.Core.Logic.{◌⊎◌, inl, inr}
use borrow.Author.Rules.{rules}
use Rattle.compose.proofs.Drafts.{read_then, read_as, as_dot, as_dots, as_axis, as_test, test_kind}
use Rattle.compose.proofs.steps.step_token.Goals as goal

pub point_token-requires : goal.point_token-requires
point_token-requires c =
    let most = (c.path_from-begun.ensures.1 [] []).most in
    (omega (arith, most), search rules)

pub point_token-requires-in-5 : goal.point_token-requires-in-5
point_token-requires-in-5 c =
    let most = (c.path_from-begun.ensures.1 [] []).most in
    (omega (arith, most), search rules)

pub test_token-requires : goal.test_token-requires
test_token-requires c =
    let most = (c.path_from-begun.ensures.1 [] []).most in
    omega (arith, most)

pub returns-in-4 : goal.returns-in-4
returns-in-4 c =
    let g = c.args in (
      c.point_token.ensures.0,
      λ values s i n.
          read_as _ 4 (read_then
          (c.path_from-begun.ensures.1 g.rows.now values)
          (c.point_token.ensures.1 _ _ values))
          (as_dot g.state g.rows.now g.frames.now.ops g.frames.now.opens values s i g.kind g.mode
          c.requires.1 c.in-4.is) (omega arith),
    )

pub returns-in-5 : goal.returns-in-5
returns-in-5 c =
    let g = c.args in (
      c.point_token-in-5.ensures.0,
      λ values s i n.
          read_as _ 4 (read_then
          (c.path_from-begun.ensures.1 g.rows.now values)
          (c.point_token-in-5.ensures.1 _ _ values))
          (as_dots g.state g.rows.now g.frames.now.ops g.frames.now.opens values s i g.kind g.mode
          c.requires.1 c.in-5.is) (omega arith),
    )

pub returns-in-6 : goal.returns-in-6
returns-in-6 c =
    let g = c.args in (
      c.axis_token.ensures.0,
      λ values s i n.
          read_as _ 4 (read_then (c.path_from-begun.ensures.1 g.rows.now values)
          (c.axis_token.ensures.1 _ _ _ values))
          (as_axis g.state g.rows.now g.frames.now.ops g.frames.now.opens values s i g.kind g.mode
          c.requires.1 g.number n
          c.in-6.is) (omega arith),
    )

pub returns-in_default : goal.returns-in_default
returns-in_default c =
    let g = c.args in
    let other : (g.kind ≡ 6) ⊎ (g.kind ≡ 13) → ⊥ = search rules in (
      c.test_token.ensures.0,
      λ values s i n.
          read_as _ 4 (read_then
          (c.path_from-begun.ensures.1
          g.rows.now values) (c.test_token.ensures.1 _ values))
          (as_test g.state g.rows.now g.frames.now.ops g.frames.now.opens values s i g.kind g.mode
          c.requires.1 g.number n (test_kind g.kind c.requires.2 (λ e. omega arith) (λ e. omega arith) (λ e. other (inl e)) (λ e. other (inr e)))) (omega arith),
    )

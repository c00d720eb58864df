-- The answers of `compose::pass::pass_over`: what its code leaves to show, by the invariants beside this file. Assumes nothing.
use Rattle.text.specs.declared.Run.TheVariants.{Spaces}
use native.Mathlib.Omega.{arith}
use mathlib.Core.Path.{sym, ◌∙◌}
use mathlib.Core.Bool.{true≢false}
use borrow.Author.Tests.{ltb-true, ltb-false}
use Rattle.text.proofs.Lexemes.{run_behind}
use Rattle.compose.proofs.Passing.{found_takes, passing_start, next_spelled, next_place, next_roomy, next_countable, passing_full, passing_next, passing_done}
use Rattle.compose.proofs.pass.pass_over.Goals as goal

pub loop-next-init : goal.loop-next-init
loop-next-init c = passing_start _ _ _ _ _ _ _ _ c.start-state.ensures
    c.requires.2
    c.requires.3
    c.requires.1
    c.requires.4 c.next_token-next.ensures

pub read_next-state-requires : goal.read_next-state-requires
read_next-state-requires c =
    let p = c.loop-next.invariant in
    let h = c.loop-next-test.true in
    (next_spelled p h c.requires.0, h, p.known, next_roomy p h, omega (arith, p.few, p.light), p.values_room, next_countable p h (omega arith))

pub is_full-requires : goal.is_full-requires
is_full-requires c =
    let most = (c.read_next-state.ensures.1
    c.loop-next.invariant.k (next_place c.loop-next.invariant c.loop-next-test.true)).most in
    let p = c.loop-next.invariant in
    (omega (arith, most, p.light), omega (arith, most, p.light))

pub shape_of-rows-then-is_full : goal.shape_of-rows-then-is_full
shape_of-rows-then-is_full c = omega
    (arith, c.loop-next.invariant.rows_room, c.requires.1)

pub shape_of-values-then-is_full : goal.shape_of-values-then-is_full
shape_of-values-then-is_full c = omega
    (arith, c.loop-next.invariant.values_room, c.requires.4)

pub returns-then-is_full : goal.returns-then-is_full
returns-then-is_full c =
    let w = c.read_next-state.ensures.1
    c.loop-next.invariant.k (next_place c.loop-next.invariant c.loop-next-test.true) in
    record {
      stopped = λ _. passing_full
          c.loop-next.invariant c.loop-next-test.true w (ltb-true _ _ (sym c.is_full.ensures ∙ c.if-is_full.true));
      read = λ e. absurd (true≢false e);
      few = λ e. absurd (true≢false e);
      light = λ e. absurd (true≢false e);
    }

pub next_token-next-requires-in-loop-next : goal.next_token-next-requires-in-loop-next
next_token-next-requires-in-loop-next c = (found_takes
    c.loop-next.invariant.found c.loop-next-test.true).1

pub loop-next-smaller : goal.loop-next-smaller
loop-next-smaller c =
    let takes = found_takes
    c.loop-next.invariant.found c.loop-next-test.true in
    let found = c.next_token-next-in-loop-next.ensures in
    omega (
      arith,
      takes.0,
      takes.1,
      found.begins,
      run_behind Spaces
          c.args.text.now c.loop-next.next.end,
    )

pub loop-next-preserved : goal.loop-next-preserved
loop-next-preserved c =
    let w = c.read_next-state.ensures.1
    c.loop-next.invariant.k (next_place c.loop-next.invariant c.loop-next-test.true) in
    let p = c.loop-next.invariant in
    passing_next p c.loop-next-test.true w _ c.read_next-state.ensures.0 (ltb-false _ _ (sym c.is_full.ensures ∙ c.if-is_full.false))
    (omega (arith, p.rows_room)) (omega (arith, p.values_room))
    c.is_due.ensures c.next_token-next-in-loop-next.ensures

pub shape_of-rows : goal.shape_of-rows
shape_of-rows c = omega (
  arith,
  c.loop-next.invariant.rows_room,
  c.requires.1,
)

pub shape_of-values : goal.shape_of-values
shape_of-values c = omega (
  arith,
  c.loop-next.invariant.values_room,
  c.requires.4,
)

pub returns : goal.returns
returns c =
    let p = c.loop-next.invariant in
    record {
      stopped = λ e. absurd (true≢false (sym e));
      read = λ _. passing_done p c.loop-next-test.false;
      few = λ _. p.few;
      light = λ _. p.light;
    }

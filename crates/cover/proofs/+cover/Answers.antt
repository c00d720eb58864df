-- The answers of `cover::cover`: what its code leaves to show, by the invariants beside this file. Assumes nothing.
use Rattle.std.proofs.Common.{arith}
use Rattle.cover.proofs.Links.{lower}
use Rattle.cover.proofs.Covering.{covered_none, covered_row}
use Rattle.cover.proofs.+cover.Goals as goal

pub returns-then-link-eq0 : goal.returns-then-link-eq0
returns-then-link-eq0 t c = covered_none _ _ _ _ _ _ c.if-link-eq0.true

pub cover-requires : goal.cover-requires
cover-requires t c =
    (omega (arith, c.requires, c.first_link-before.ensures, c.if-link-eq0.false), (lower _ _ _ c.requires.0 (omega (arith, c.requires, c.first_link-before.ensures, c.if-link-eq0.false)), (omega (arith, c.requires), omega (arith, c.requires))))

pub join-requires : goal.join-requires
join-requires t c =
    (omega (arith, c.requires, c.cover.auto, c.reach.auto, c.sift.auto), omega (arith, c.requires, c.cover.auto))

pub returns : goal.returns
returns t c =
    covered_row _ _ _ _ c.if-link-eq0.false _ _ _ c.first_link-before.ensures.0 c.axis_at-axis.ensures c.node_test_at-test.ensures _ _ _ _ _ _ _ c.cover.ensures c.reach.ensures c.sift.ensures c.join.ensures

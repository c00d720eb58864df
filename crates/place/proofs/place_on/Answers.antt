-- The answers of `place::place_on`: what its code leaves to show, by the invariants beside this file. Assumes nothing.
use mathlib.Core.Path.{◌≡◌, sym, ◌∙◌}
use native.Mathlib.Omega.{arith}
use borrow.Author.Rules.{rules}
use lib.ListN.{length}
use Rattle.meaning.specs.Axis.{ordered}
use Rattle.meaning.proofs.Lists.{length_ordered}
use Rattle.meaning.proofs.Filters.{tallied_start, tallied_skip, tallied_more}
use Rattle.meaning.proofs.Places.{place_absent, place_counted}
use Rattle.place.proofs.place_on.Goals as goal
use Rattle.place.proofs.place_on.Goals.{then-holds, else-holds}

pub returns-then-not-holds : goal.returns-then-not-holds
returns-then-not-holds c = (sym (place_absent _ _ _ _ (search rules) (sym c.holds.ensures ∙ c.if-not-holds.true)), search rules)

pub loop-i-init : goal.loop-i-init
loop-i-init c = (search rules, tallied_start _ _)

pub loop-i-preserved : goal.loop-i-preserved
loop-i-preserved c =
    let inv = c.loop-i.invariant in
    let n = c.row_count-n.result in
    let r = c.is_reverse-reverse.result in
    let long : length (ordered r n) ≡ n = length_ordered r n in
    let at-z = c.nth.ensures.0 in
    elim c.if-holds.branch [ then-holds w ↦ (omega arith, rw w.before-is (tallied_more _ _ _ _ inv.1 (omega arith) (rw (← at-z, ← c.holds-in-loop-i.ensures) w.if-holds.true))) | else-holds w ↦ (omega arith, rw w.before-is (tallied_skip _ _ _ _ inv.1 (omega arith) (rw (← at-z, ← c.holds-in-loop-i.ensures) w.if-holds.false))) ]

pub returns : goal.returns
returns c =
    let own = c.nth-own.ensures in
    let there = c.if-not-holds.false in
    (place_counted _ _ _ _ _ _ _ _ _ c.row_count-n.ensures c.is_reverse-reverse.ensures (search rules) (rw c.holds.ensures at there) own.0 own.1 (omega arith) c.loop-i.invariant.1, omega arith)

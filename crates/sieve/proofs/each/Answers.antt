-- The answers of `sieve::each`: what its code leaves to show, by the invariant beside this file. Assumes nothing.
use Rattle.std.proofs.Common.{◌<◌, length, drop, arith, ◌∙◌, inl, inr}
use Rattle.std.proofs.lemmas.List.{get_or-take, get_or-set_same, get_or-set_other, get_or_default, get_or_append_left, length-take-le}
use Rattle.meaning.proofs.Bools.{eq_or_ne}
use Rattle.sieve.proofs.each.Goals as goal

pub loop-y-init : goal.loop-y-init
loop-y-init g c = ((λ k d l. absurd (omega arith)), λ k d a l. get_or-take c.args.n c.args.items.now k d l)

pub loop-y-preserved : goal.loop-y-preserved
loop-y-preserved g c =
    let inv = c.loop-y.invariant in
    let items = c.loop-y.item-items in
    let y = c.loop-y.y in
    let there : y < length items = omega arith in
    let row : y < c.args.n = omega (arith, length-take-le c.args.n c.args.items.now c.requires.room) in (
      (λ k d l. elim (eq_or_ne k y) [
        | inl e ↦ rw (e, get_or-set_same items y c.f.result d there, ← inv.1 y d (omega arith) row, get_or_default items y d c.item-item.result there) c.f.ensures
        | inr q ↦ rw (get_or-set_other items y k c.f.result d q) (inv.0 k d (omega arith))
      ]),
      (λ k d a l. get_or-set_other items y k c.f.result d (λ q. omega arith) ∙ inv.1 k d (omega arith) l),
    )

pub returns-clause-made : goal.returns-clause-made
returns-clause-made g c y d l =
    let all = length-take-le c.args.n c.args.items.now c.requires.room in
    rw (get_or_append_left c.loop-y.item-items (drop c.args.n c.args.items.now) d y (omega (arith, all))) (c.loop-y.invariant.0 y d (omega (arith, all)))

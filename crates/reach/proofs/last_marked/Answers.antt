-- The answers of `reach::last_marked`: what its code leaves to show, by the invariant beside this file. Assumes nothing.
use Rattle.std.proofs.Common.{◌∙◌, ◌-◌, inl, inr, refl, sym, arith}
use Rattle.meaning.proofs.Bools.{eq_or_ne}
use Rattle.reach.specs.Reach.{admitted}
use Rattle.reach.proofs.Sweep.{gives, last_is, last_none, before_hit}
use Rattle.reach.proofs.last_marked.Goals as goal

pub loop-i-init : goal.loop-i-init
loop-i-init c = (refl, λ x a b. absurd (omega (arith, c.row_count-i.ensures)))

pub loop-i-preserved : goal.loop-i-preserved
loop-i-preserved c =
    let own = gives c.args.from.now (admitted c.args.table.now c.args.given) (c.loop-i.i - 1) _ _ refl c.admits.ensures in (
      c.loop-i.invariant.0,
      λ x a b. elim (eq_or_ne x (c.loop-i.i - 1)) [
        | inl e ↦ rw e (sym own ∙ c.if-from-i.false)
        | inr e ↦ c.loop-i.invariant.1 x (omega (arith, e)) b
      ],
    )

pub returns-after-loop-i : goal.returns-after-loop-i
returns-after-loop-i c = λ y. rw c.loop-i.invariant.0 (last_none _ _ (λ x b. c.loop-i.invariant.1 x (omega arith) b) _ ∙ before_hit _ _ y _)

pub returns-then-from-i : goal.returns-then-from-i
returns-then-from-i c =
    let own = gives c.args.from.now (admitted c.args.table.now c.args.given) (c.loop-i.i - 1) _ _ refl c.admits.ensures in
    λ y. last_is _ _ (c.loop-i.i - 1) (omega (arith, c.row_count-i.ensures)) (sym own ∙ c.if-from-i.true) (λ x a b. c.loop-i.invariant.1 x (omega arith) b) _ ∙ before_hit _ _ y _

-- The answers of `Pen::write_chain`: what its code leaves to show, by the invariants beside this file. Assumes nothing.
use Rattle.std.proofs.Common.{refl, ◌∙◌, arith}
use Rattle.meaning.specs.Tree.{tree}
use Rattle.turn.proofs.Chain.{few_predicates, behind_start, behind_room, behind_step, behind_done}
use Rattle.turn.proofs.pen.Pen.write_chain.Goals as goal

pub write_step-requires : goal.write_step-requires
write_step-requires c =
    let w = few_predicates (tree c.args.path.now c.args.last) in
    (omega arith, record { few = omega arith; holds = omega arith })

pub loop-row-init : goal.loop-row-init
loop-row-init c =
    (behind_start _ _ _ _ c.args.self.now.out.now c.requires.1 (omega (arith, c.write_step.ensures.next), rw c.requires.0 at c.write_step.ensures.stored), refl)

pub write_step-requires-in-Some : goal.write_step-requires-in-Some
write_step-requires-in-Some c =
    let here = c.in-Some.ensures in
    let room = behind_room _ _ _ _ _ _ _ c.loop-row.invariant.0 (λ e. omega arith) _ (rw here.1 at c.first_link-from.ensures.0) in
    (omega arith, record { few = omega (arith, room.few); holds = omega (arith, room.holds) })

pub loop-row-preserved : goal.loop-row-preserved
loop-row-preserved c =
    let here = c.in-Some.ensures in (
      behind_step _ _ _ _ _ _ _ c.loop-row.invariant.0 (λ e. omega arith) _ (rw here.1 at c.first_link-from.ensures.0) _ _ _ _ (rw here.1 at c.index_or_axis.ensures.0)
          c.inverse_axis-axis.ensures.0 (omega (arith, c.write_step-in-Some.ensures.next), c.write_step-in-Some.ensures.stored),
      c.write_step-in-Some.ensures.same ∙ c.loop-row.invariant.1,
    )

pub returns : goal.returns
returns c =
    let r = behind_done _ _ _ _ _ _ _ c.loop-row.invariant.0 c.args.self.now.out.now (omega (arith, c.in_default.ensures)) (rw c.requires.0 at c.write_step.ensures.stored) in
    record { same = c.loop-row.invariant.1 ∙ c.write_step.ensures.same; next = omega (arith, r.0); stored = rw c.requires.0 r.1 }

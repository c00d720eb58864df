-- `Pen::write_step` meets its contract: the rows of the predicates, then the row of the step, are one run of stores. Assumes nothing.
use Rattle.std.proofs.Common.{ap, ◌∙◌, arith}
use Rattle.meaning.specs.Rows.{code}
use Rattle.meaning.specs.Turning.{weight}
use Rattle.turn.proofs.Chain.{wrote_length, step_stored}
use Rattle.turn.proofs.pen.Pen.write_step.Goals as goal

pub put_row-requires : goal.put_row-requires
put_row-requires c =
    let h = ap weight c.predicates_of-held.ensures in
    let l = wrote_length _ _ _ _ c.write.ensures in
    (omega (arith, c.write.ensures.next), omega (arith, c.write.ensures.next))

pub returns : goal.returns
unfolding code
returns c =
    let r =
    step_stored _ _ _ _ _ _ _ _ _ _ _ c.predicates_of-held.ensures (c.write.ensures.next, c.write.ensures.stored) c.link_to-own.ensures.0 c.test_of-test.ensures.0
    (rw c.code_of.ensures at c.put_row.ensures.stored) in
    record { same = c.put_row.ensures.same ∙ c.write.ensures.same; next = omega (arith, c.put_row.ensures.next, r.0); stored = r.1 }

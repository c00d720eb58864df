-- `turn::turn` meets its contract: each check by what was read, in the order of the definition; a refusal has stored nothing.
-- Assumes nothing.
use Rattle.std.proofs.Common.{◌+◌, ◌≡◌, false, sym, refl, rules, arith}
use mathlib.Core.Bool.{true≢false}
use denote.Enum.Bare.{sameb, same_true}
use Rattle.meaning.specs.contracts.Op.{the_type}
use Rattle.meaning.specs.declared.Op.{Op}
use Rattle.meaning.specs.declared.Op.TheVariants.{Absolute}
use Rattle.meaning.specs.Meaning.{is_absolute}
use Rattle.std.proofs.lemmas.Result.{err_from_is_err_and}
use Rattle.meaning.specs.declared.Refusal.TheVariants.{StepCounts, StepOnAttributes, AbsolutePath, NoRoomToTurn}
use Rattle.turn.proofs.Answered.{refuses, stopped, turned_round, rows_there, step_counts, step_of_attributes, is_absolute_lem, not_absolute_lem, too_many, too_short, is_turned, is_turnable}
use Rattle.turn.proofs.turn.Goals as goal
use Rattle.turn.proofs.turn.Goals.{then-needed-gt-MOST_ROWS-via-then-needed-gt-MOST_ROWS, then-needed-gt-MOST_ROWS-via-else-needed-gt-MOST_ROWS+then-out-needed}

-- an op that the test tells from Absolute is relative
relative : (op : Op) → sameb the_type op Absolute ≡ false → is_absolute op ≡ false
relative op h = not_absolute_lem op (λ e. true≢false (rw e at h))

pub returns-in_err-rows : goal.returns-in_err-rows
returns-in_err-rows c =
    let p = err_from_is_err_and c.from_residual.result c.from_residual.ensures.1 in
    rw (p.1, p.2) (stopped _ _ _ _ c.in_err-rows.ensures)

pub overflow_sub-rows : goal.overflow_sub-rows
overflow_sub-rows c = omega (arith, rows_there _ _ _ c.in_ok-rows.ensures)

pub overflow_sub-rows-2 : goal.overflow_sub-rows-2
overflow_sub-rows-2 c = omega (arith, rows_there _ _ _ c.in_ok-rows.ensures)

pub returns-in-Some : goal.returns-in-Some
returns-in-Some c =
    let k = rw c.in-Some.is at c.steps_of-steps.ensures.counting in
    refuses _ _ _ (StepCounts c.in-Some.step) (step_counts _ _ _ c.in_ok-rows.ensures _ _ _ c.first_link.ensures.0 c.op_at-op.ensures _ k.0 k.1)

pub returns-in-Some-attribute : goal.returns-in-Some-attribute
returns-in-Some-attribute c =
    let k = rw c.in-Some-attribute.is at c.steps_of-steps.ensures.attribute in
    refuses _ _ _ (StepOnAttributes c.in-Some-attribute.step)
    (step_of_attributes _ _ _ c.in_ok-rows.ensures _ _ _ c.first_link.ensures.0 c.op_at-op.ensures (rw c.in_default.is at c.steps_of-steps.ensures.counting) _ k.0 k.1)

pub returns-then-eq : goal.returns-then-eq
returns-then-eq c =
    refuses _ _ _ AbsolutePath
    (is_absolute_lem _ _ _ c.in_ok-rows.ensures _ _ _ c.first_link.ensures.0 c.op_at-op.ensures (rw c.in_default.is at c.steps_of-steps.ensures.counting)
    (rw c.in_default-attribute.is at c.steps_of-steps.ensures.attribute) (same_true the_type (search rules) _ _ (sym c.if-eq.ensures)))

pub overflow_cast-result-then-needed-gt-MOST_ROWS : goal.overflow_cast-result-then-needed-gt-MOST_ROWS
overflow_cast-result-then-needed-gt-MOST_ROWS c = omega (arith, rows_there _ _ _ c.in_ok-rows.ensures)

pub returns-then-needed-gt-MOST_ROWS : goal.returns-then-needed-gt-MOST_ROWS
returns-then-needed-gt-MOST_ROWS c =
    let free = rw c.in_default.is at c.steps_of-steps.ensures.counting in
    let usual = rw c.in_default-attribute.is at c.steps_of-steps.ensures.attribute in
    refuses _ _ _ (NoRoomToTurn (c.in_ok-rows.field-0 + 1))
    (elim c.then-needed-gt-MOST_ROWS.branch [
      | then-needed-gt-MOST_ROWS-via-then-needed-gt-MOST_ROWS w ↦ too_many _ _ _ c.in_ok-rows.ensures _ _ _ c.first_link.ensures.0 c.op_at-op.ensures free usual (relative _ (sym c.if-eq.ensures)) w.if-needed-gt-MOST_ROWS.true
      | then-needed-gt-MOST_ROWS-via-else-needed-gt-MOST_ROWS+then-out-needed w ↦ too_short _ _ _ c.in_ok-rows.ensures _ _ _ c.first_link.ensures.0 c.op_at-op.ensures free usual (relative _ (sym c.if-eq.ensures)) w.if-needed-gt-MOST_ROWS.false w.if-out-needed.true
    ])

pub write_turned-requires : goal.write_turned-requires
write_turned-requires c =
    is_turnable _ _ _ c.in_ok-rows.ensures _ _ _ c.first_link.ensures.0 c.op_at-op.ensures (rw c.in_default.is at c.steps_of-steps.ensures.counting)
    (rw c.in_default-attribute.is at c.steps_of-steps.ensures.attribute) (relative _ (sym c.if-eq.ensures)) _ refl c.if-needed-gt-MOST_ROWS.false c.if-out-needed.false

pub returns : goal.returns
returns c =
    turned_round _ _ _ _ _
    (is_turned _ _ _ c.in_ok-rows.ensures _ _ _ c.first_link.ensures.0 c.op_at-op.ensures (rw c.in_default.is at c.steps_of-steps.ensures.counting)
    (rw c.in_default-attribute.is at c.steps_of-steps.ensures.attribute) (relative _ (sym c.if-eq.ensures)) c.if-needed-gt-MOST_ROWS.false c.if-out-needed.false)
    c.write_turned.ensures

-- `view::is_viewable` meets its contract: by what its tests gave.
-- Assumes nothing.
use Rattle.std.proofs.Common.{◌∙◌, sym, ap, not, true≢false}
use Rattle.meaning.proofs.View.{view_refused, view_outside, view_allowed}
use Rattle.meaning.proofs.Outcome.{accepted_told}
use Rattle.view.proofs.is_viewable.Goals as goal
use Rattle.view.proofs.is_viewable.Goals.{then-is_ok, else-is_ok}

pub returns-then-v-row_count : goal.returns-then-v-row_count
returns-then-v-row_count c =
    let a = accepted_told c.args.table.now c.check_table.result c.check_table.ensures in
    elim c.if-is_ok.branch [
      | then-is_ok w ↦ c.is_ascending.ensures ∙ sym (view_allowed _ _ _ _ (a ∙ ap not w.if-is_ok.ensures.negation) w.row_count.ensures (sym w.value-is ∙ c.if-v-row_count.true))
      | else-is_ok w ↦ absurd (true≢false (sym c.if-v-row_count.true ∙ w.value-is ∙ w.if-is_ok.false))
    ]

pub returns-else-v-row_count : goal.returns-else-v-row_count
returns-else-v-row_count c =
    let a = accepted_told c.args.table.now c.check_table.result c.check_table.ensures in
    elim c.if-is_ok.branch [
      | then-is_ok w ↦ c.if-v-row_count.false ∙ sym (view_outside _ _ _ _ w.row_count.ensures (sym w.value-is ∙ c.if-v-row_count.false))
      | else-is_ok w ↦ c.if-v-row_count.false ∙ sym (view_refused _ _ _ (a ∙ ap not w.if-is_ok.ensures.negation))
    ]

-- `compose::mode::next_mode` meets its contract, by the act.
-- Assumes nothing.
use native.Mathlib.Omega.{arith}
use Rattle.compose.proofs.Modes.{mode_next, behind_refusal, behind_mode, behind_call, behind_bracket, behind_closing, behind_comma}
use Rattle.compose.proofs.mode.next_mode.Goals as goal

pub returns-in-0 : goal.returns-in-0
returns-in-0 c =
    let g = c.args in
    (omega arith, mode_next g.kind g.mode c.act_at-act.ensures (behind_refusal _ _ c.in-0.is))

pub returns-in-1-to-14 : goal.returns-in-1-to-14
returns-in-1-to-14 c =
    let g = c.args in
    (omega arith, mode_next g.kind g.mode c.act_at-act.ensures (behind_mode _ _ (λ e. omega arith) (omega arith)))

pub returns-in-16 : goal.returns-in-16
returns-in-16 c =
    let g = c.args in
    (omega arith, mode_next g.kind g.mode c.act_at-act.ensures (behind_call _ _ c.in-16.is))

pub returns-in-18-to-19 : goal.returns-in-18-to-19
returns-in-18-to-19 c =
    let g = c.args in
    (omega arith, mode_next g.kind g.mode c.act_at-act.ensures (behind_closing _ _ (omega arith) (omega arith)))

pub returns-in_default : goal.returns-in_default
returns-in_default c =
    let g = c.args in
    (omega arith, mode_next g.kind g.mode c.act_at-act.ensures (behind_bracket _ _ (omega arith) (omega arith) (λ e. omega arith)))

pub returns-in_default-2 : goal.returns-in_default-2
returns-in_default-2 c =
    let g = c.args in
    (omega arith, mode_next g.kind g.mode c.act_at-act.ensures (behind_comma _ _ (omega arith)))

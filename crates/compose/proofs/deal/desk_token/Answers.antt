-- `compose::deal::desk_token` meets its contract, by the class of the token.
-- Assumes nothing.
use Prim.Native.Nat.{ℕ}
use native.Mathlib.Omega.{arith}
use mathlib.Core.Path.{sym, subst}
use Rattle.compose.specs.Standing.{Deals}
use Rattle.compose.specs.Deals.{operated}
use Rattle.compose.proofs.Deals.{worked_kept, opened_desk}
use Rattle.compose.proofs.Classes.{dealt, as_opening, as_closing, as_bracket, as_square, as_call, as_minus, as_moved, moved_kind, as_operator}
use Rattle.compose.proofs.deal.desk_token.Goals as goal

pub returns-then-kind-eq-MINUS : goal.returns-then-kind-eq-MINUS
returns-then-kind-eq-MINUS c =
    let g = c.args in
    dealt g.kind g.number g.mode c.minus_token.ensures (omega arith)
    (as_minus g.kind g.number g.mode
    c.if-kind-eq-MINUS.true)

pub returns-then-kind-ge-PLUS : goal.returns-then-kind-ge-PLUS
returns-then-kind-ge-PLUS c =
    let g = c.args in
    let op = c.operation_of.ensures in
    dealt g.kind g.number g.mode c.operator_token.ensures (omega arith)
    (λ d. subst (λ (n : ℕ). Deals g.kind g.number g.mode d (operated n d)) (sym op)
    (as_operator g.kind g.number g.mode
    c.if-kind-ge-PLUS.true (omega arith)
    c.if-kind-eq-MINUS.false d))

pub returns-in-0 : goal.returns-in-0
returns-in-0 c =
    let g = c.args in
    dealt g.kind g.number g.mode
    (opened_desk g.bench _ g.rows.now g.frames.now.ops g.frames.now.opens _ c.open_token.ensures) (omega arith)
    (as_opening g.kind g.number g.mode c.in-0.is)

pub returns-in-1 : goal.returns-in-1
returns-in-1 c =
    let g = c.args in
    dealt g.kind g.number g.mode c.close_token.ensures (omega arith)
    (as_closing g.kind g.number g.mode c.in-1.is)

pub returns-in-2 : goal.returns-in-2
returns-in-2 c =
    let g = c.args in
    dealt g.kind g.number g.mode (c.push_frame.ensures g.rows.now) (omega arith)
    (as_bracket g.kind g.number g.mode c.in-2.is)

pub returns-in-3 : goal.returns-in-3
returns-in-3 c =
    let g = c.args in
    dealt g.kind g.number g.mode c.square_token.ensures (omega arith)
    (as_square g.kind g.number g.mode c.in-3.is)

pub returns-in-12 : goal.returns-in-12
returns-in-12 c =
    let g = c.args in
    dealt g.kind g.number g.mode c.call_token.ensures (omega arith)
    (as_call g.kind g.number g.mode
    c.in-12.is)

pub returns-in_default : goal.returns-in_default
returns-in_default c =
    let g = c.args in
    dealt g.kind g.number g.mode (worked_kept g.bench g.rows.now g.frames.now.ops g.frames.now.opens) (omega arith)
    (as_moved g.kind g.number g.mode
    (moved_kind g.kind c.requires.2 c.if-kind-ge-PLUS.false (λ e. omega arith) (λ e. omega arith) (λ e. omega arith) (λ e. omega arith) (λ e. omega arith)))

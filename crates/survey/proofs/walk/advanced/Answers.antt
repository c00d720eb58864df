-- `survey::walk::advanced` meets its contract: each way on by the law of the token that was seen. In the answers h is where the survey stands,
-- v what was seen, and on that it is taken.
-- Assumes nothing.
use native.Mathlib.Omega.{arith}
use mathlib.Core.Path.{◌∙◌, sym}
use Rattle.survey.proofs.Taking.{taken_some}
use Rattle.survey.proofs.Standing.{left_of}
use Rattle.survey.proofs.Advancing.{advanced_ends, advanced_refused, seen_further, seen_reads, seen_opens, seen_closes, seen_bracketed, advanced_goes, advanced_enters, advanced_closes}
use Rattle.survey.proofs.walk.advanced.Goals as goal

pub look-t-requires : goal.look-t-requires
look-t-requires c = let h = c.requires in (h.cut.within, (left_of h).mode)

pub finished-requires : goal.finished-requires
finished-requires c = tt

pub returns-then-kind-eq-END : goal.returns-then-kind-eq-END
returns-then-kind-eq-END c =
    let h = c.requires in
    let v = c.look-t.ensures in
    advanced_ends h v c.finished.result c.if-kind-eq-END.true c.finished.ensures

pub is_taken-requires : goal.is_taken-requires
is_taken-requires c = tt

pub refused-requires : goal.refused-requires
refused-requires c = tt

pub returns-then-not-is_taken : goal.returns-then-not-is_taken
returns-then-not-is_taken c =
    let h = c.requires in
    let v = c.look-t.ensures in
    advanced_refused h v c.refused.result c.if-kind-eq-END.false
    (sym c.is_taken.ensures ∙ c.if-not-is_taken.true) c.refused.ensures

pub own_fault-own-requires : goal.own_fault-own-requires
own_fault-own-requires c =
    let h = c.requires in
    let v = c.look-t.ensures in
    let on = sym c.is_taken.ensures ∙ c.if-not-is_taken.false in
    seen_reads h v on

pub went-requires : goal.went-requires
went-requires c =
    let h = c.requires in
    let v = c.look-t.ensures in
    let on = sym c.is_taken.ensures ∙ c.if-not-is_taken.false in
    (seen_reads h v on, seen_further h v on, taken_some _ _ on)

pub returns-then-act-lt15 : goal.returns-then-act-lt15
returns-then-act-lt15 c =
    let h = c.requires in
    let v = c.look-t.ensures in
    let on = sym c.is_taken.ensures ∙ c.if-not-is_taken.false in
    advanced_goes h v on c.went.result c.own_fault-own.result c.own_fault-own.ensures c.if-act-lt15.true
    c.went.ensures

pub entered-requires : goal.entered-requires
entered-requires c =
    let h = c.requires in
    let v = c.look-t.ensures in
    let on = sym c.is_taken.ensures ∙ c.if-not-is_taken.false in
    seen_opens h v on

pub returns-then-act-lt18 : goal.returns-then-act-lt18
returns-then-act-lt18 c =
    let h = c.requires in
    let v = c.look-t.ensures in
    let on = sym c.is_taken.ensures ∙ c.if-not-is_taken.false in
    let own = c.own_fault-own in
    advanced_enters h v on c.entered.result own.result _ own.ensures c.if-act-lt15.false
    c.if-act-lt18.true c.entered.ensures

pub ready-low-requires : goal.ready-low-requires
ready-low-requires c =
    let h = c.requires in
    let v = c.look-t.ensures in
    let on = sym c.is_taken.ensures ∙ c.if-not-is_taken.false in
    seen_closes h v on c.if-act-lt18.false

pub overflow_sub-s : goal.overflow_sub-s
overflow_sub-s c = omega (arith, c.ready-low.ensures.least)

pub closed-requires : goal.closed-requires
closed-requires c =
    let h = c.requires in
    let v = c.look-t.ensures in
    let on = sym c.is_taken.ensures ∙ c.if-not-is_taken.false in (
      seen_bracketed h v on c.if-act-lt18.false,
      seen_further h v on,
      omega (arith, c.ready-low.ensures.least),
    )

pub returns : goal.returns
returns c =
    let h = c.requires in
    let v = c.look-t.ensures in
    let on = sym c.is_taken.ensures ∙ c.if-not-is_taken.false in
    let ready = c.ready-low in
    let load = c.load-outer in
    advanced_closes h v on c.closed.result _ ready.result load.result
    c.if-act-lt18.false ready.ensures load.ensures c.closed.ensures

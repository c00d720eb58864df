-- `survey::refill::follow` meets its contract: the token is taken, so it can be read, and each kind of act has its function.
-- Assumes nothing.
use native.Mathlib.Omega.{arith}
use Rattle.survey.proofs.Retrace.{traced_mode, follows, follows_taken}
use Rattle.survey.proofs.refill.follow.Goals as goal

pub look-s-requires : goal.look-s-requires
look-s-requires c = (c.requires.0.cut.within, traced_mode c.requires.0)

pub go_on-requires : goal.go_on-requires
go_on-requires c =
    let p = c.requires in
    (follows p.0 p.1 p.2 c.look-s.ensures, c.if-act-lt15.true)

pub open-requires : goal.open-requires
open-requires c =
    let p = c.requires in
    (follows p.0 p.1 p.2 c.look-s.ensures, c.if-act-lt15.false, c.if-act-lt18.true)

pub part-requires : goal.part-requires
part-requires c =
    let p = c.requires in
    (follows p.0 p.1 p.2 c.look-s.ensures, c.if-act-eq20.true)

pub close-requires : goal.close-requires
close-requires c =
    let p = c.requires in
    let f = follows p.0 p.1 p.2 c.look-s.ensures in
    (f, c.if-act-lt18.false, omega (arith, (follows_taken f).most, c.if-act-eq20.false))

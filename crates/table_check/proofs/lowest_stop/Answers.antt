-- `table_check::lowest_stop` meets its contract: a pass begins at row 1 with no name seen, and finds the lowest row at which it stops.
-- Assumes nothing.
use Rattle.std.proofs.Common.{◌∙◌, sym, arith}
use Rattle.table_check.proofs.Stops.{stops_here, goes_past}
use Rattle.table_check.proofs.Passes.{passing_start, stops, stops_nowhere}
use Rattle.table_check.proofs.lowest_stop.Goals as goal

pub invariant_of-pass : goal.invariant_of-pass
invariant_of-pass g c = record {
  stands = (omega arith, omega arith, c.requires.1, c.requires.2.1);
  knows = passing_start _ _ c.requires.0 c.requires.2.0;
}

pub may_pass-requires : goal.may_pass-requires
may_pass-requires g c = (omega arith, omega arith)

pub returns-then-not-may_pass : goal.returns-then-not-may_pass
returns-then-not-may_pass g c =
    let p = c.loop-row.pass in
    rw (← c.loop-row.invariant.2, ← c.loop-row.invariant.0) (omega arith, stops _ _ _ _ _ p.knows (omega arith) (stops_here _ _ _ (sym c.may_pass.ensures ∙ c.if-not-may_pass.true)))

pub pass-requires : goal.pass-requires
pass-requires g c = (omega arith, (omega arith, goes_past _ _ _ (sym c.may_pass.ensures ∙ c.if-not-may_pass.false)))

pub returns : goal.returns
returns g c = rw (← c.loop-row.invariant.2) (stops_nowhere _ _ _ _ _ c.loop-row.pass.knows (omega arith))

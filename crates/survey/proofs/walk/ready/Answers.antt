-- `survey::walk::ready` meets its contract: the window is as it was, or it was filled again from the lowest level that it has room for.
-- Assumes nothing.
use native.Mathlib.Omega.{arith}
use Rattle.survey.proofs.walk.ready.Goals as goal

pub returns-then-low-depth : goal.returns-then-low-depth
returns-then-low-depth c =
    let pre = c.requires in
    record { holds = pre.holds; least = c.if-low-depth.true; most = pre.most; size = pre.size }

pub refill_from-from-requires : goal.refill_from-from-requires
refill_from-from-requires c = tt

pub overflow_add-from : goal.overflow_add-from
overflow_add-from c = omega (arith, c.refill_from-from.ensures)

pub refill-requires : goal.refill-requires
refill-requires c = let pre = c.requires in (pre.goes, pre.fits, omega arith)

pub returns : goal.returns
returns c =
    let from = c.refill_from-from.ensures in
    record {
      holds = c.refill.ensures;
      least = omega (arith, from, c.requires.some);
      most = omega (arith, from);
      size = c.refill.new.window.size;
    }

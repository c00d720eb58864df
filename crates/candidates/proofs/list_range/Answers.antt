-- The answers of `candidates::list_range`: what its code leaves to show, by the invariants beside this file. Assumes nothing.
use mathlib.Core.Path.{refl, sym}
use native.Mathlib.Omega.{arith}
use borrow.Author.Rules.{rules}
use lib.ListN.{length-set}
use Rattle.meaning.proofs.Ranges.{ranged_start, ranged_done}
use Rattle.candidates.proofs.Written.{counted_once, ranged_next}
use Rattle.candidates.proofs.list_range.Goals as goal

pub loop-y-init : goal.loop-y-init
loop-y-init c = (omega arith, omega arith, omega arith, refl, ranged_start _ _ _ _ _)

pub loop-y-preserved : goal.loop-y-preserved
loop-y-preserved c =
    let inv = c.loop-y.invariant in (
      omega arith,
      omega arith,
      omega (arith, counted_once c.is_in_range.result, c.from-m.ensures),
      simp length-set inv.3,
      rw c.from-m.ensures (ranged_next _ _ _ _ _ _ _ _ inv.4 (search rules) inv.0 (search rules) (omega arith) (sym c.is_in_range.ensures)),
    )

pub returns : goal.returns
returns c = (ranged_done _ _ _ _ _ _ _ c.loop-y.invariant.4 (search rules) (search rules), omega arith)

-- `compose::desk::store_open` meets its contract: two stores one behind the other are a run of stores.
-- Assumes nothing.
use native.Mathlib.Omega.{arith}
use native.Mathlib.Numerals.{add-one}
use lib.ListN.{length-set}
use Rattle.compose.proofs.desk.store_open.Goals as goal

pub bounds-opens-at-2 : goal.bounds-opens-at-2
bounds-opens-at-2 c = simp length-set (omega arith)

pub returns : goal.returns
returns c = rw (add-one c.args.at)

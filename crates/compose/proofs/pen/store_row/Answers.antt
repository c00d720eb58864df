-- `compose::pen::store_row` meets its contract: five stores one behind the other are a run of stores.
-- Assumes nothing.
use native.Mathlib.Omega.{arith}
use lib.ListN.{length-set}
use mathlib.Core.Path.{refl}
use Rattle.meaning.proofs.Written.{five_stores}
use Rattle.compose.proofs.pen.store_row.Goals as goal

pub bounds-rows-at-2 : goal.bounds-rows-at-2
bounds-rows-at-2 c = simp length-set (omega arith)

pub bounds-rows-at-3 : goal.bounds-rows-at-3
bounds-rows-at-3 c = simp length-set (omega arith)

pub bounds-rows-at-4 : goal.bounds-rows-at-4
bounds-rows-at-4 c = simp length-set (omega arith)

pub bounds-rows-at-5 : goal.bounds-rows-at-5
bounds-rows-at-5 c = simp length-set (omega arith)

pub returns : goal.returns
returns c =
    let g = c.args in
    five_stores g.rows.now _ _ _ _ _ g.at g.op g.a g.b g.c g.d refl refl refl refl refl

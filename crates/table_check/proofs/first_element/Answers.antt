-- `table_check::first_element` meets its contract: an element that is found is the first.
-- Assumes nothing.
use Rattle.std.proofs.Common.{◌≡◌, ◌∙◌, sym, arith}
use Rattle.meaning.specs.Table.{rows}
use Rattle.meaning.proofs.Checks.{passed_start, passed_more, passed_found, passed_all}
use Rattle.table.proofs.Numbers.{same_kind}
use Rattle.table_check.proofs.first_element.Goals as goal

pub loop-i-init : goal.loop-i-init
loop-i-init c = passed_start _

pub returns-then-eq : goal.returns-then-eq
returns-then-eq c = (omega arith, passed_found _ _ _ c.loop-i.invariant (omega arith) (grind (arith, same_kind)))

pub loop-i-preserved : goal.loop-i-preserved
loop-i-preserved c = passed_more _ _ c.loop-i.invariant (grind (arith, same_kind))

pub returns : goal.returns
returns c =
    let e : c.loop-i.i ≡ rows c.args.table.now = omega arith in
    sym e ∙ passed_all _ _ _ c.loop-i.invariant e

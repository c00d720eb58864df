-- `table_check::Pass::is_later_element` meets its contract: an element child of the root stands after another exactly if it is not the table's first
-- element.
-- Assumes nothing.
use Rattle.std.proofs.Common.{arith}
use Rattle.table.proofs.Numbers.{same_kind}
use Rattle.table_check.proofs.Passes.{later_here}
use Rattle.table_check.proofs.Pass.is_later_element.Goals as goal

pub returns-then-parent_at-eq0 : goal.returns-then-parent_at-eq0
returns-then-parent_at-eq0 g c =
    let s = c.args.self.now.stands in
    rw (later_here _ _ _ _ _ c.args.self.now.knows s.0 c.requires, ← s.3) (grind (arith, same_kind))

pub returns-else-parent_at-eq0 : goal.returns-else-parent_at-eq0
returns-else-parent_at-eq0 g c =
    let s = c.args.self.now.stands in
    rw (later_here _ _ _ _ _ c.args.self.now.knows s.0 c.requires, ← s.3) (grind (arith, same_kind))

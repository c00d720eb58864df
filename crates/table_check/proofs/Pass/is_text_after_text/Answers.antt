-- `table_check::Pass::is_text_after_text` meets its contract: a text's previous sibling is text exactly if the row before is one with the same
-- parent.
-- Assumes nothing.
use Rattle.std.proofs.Common.{arith}
use Rattle.table.proofs.Numbers.{same_kind}
use Rattle.table_check.proofs.Passes.{text_here}
use Rattle.table_check.proofs.Pass.is_text_after_text.Goals as goal

pub returns-then-eq-2 : goal.returns-then-eq-2
returns-then-eq-2 g c = rw (text_here _ _ _ _ _ c.args.self.now.knows c.args.self.now.stands.0 c.requires.0 c.requires.1) (grind (arith, same_kind))

pub returns-else-eq-2 : goal.returns-else-eq-2
returns-else-eq-2 g c = rw (text_here _ _ _ _ _ c.args.self.now.knows c.args.self.now.stands.0 c.requires.0 c.requires.1) (grind (arith, same_kind))

-- `axes::nth` meets its contract: what stands at i in the ascending and in the descending order of n rows.
-- Assumes nothing.
use Rattle.meaning.specs.Axis.{ordered}
use Rattle.meaning.proofs.Lists.{up_to_at, down_from_at}
use borrow.Author.Rules.{rules}
use Rattle.axes.proofs.nth.Goals as goal

pub returns-then-reverse : goal.returns-then-reverse
unfolding ordered
returns-then-reverse c = (rw c.if-reverse.true (down_from_at _ _ (search rules)), search rules)

pub returns-else-reverse : goal.returns-else-reverse
unfolding ordered
returns-else-reverse c = (rw c.if-reverse.false (up_to_at _ _ (search rules)), search rules)

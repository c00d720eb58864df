-- `marks::give_marks` meets its contract: the outcome is that of its check, and what is listed is what is marked.
-- Assumes nothing.
use Rattle.std.proofs.Common.{refl}
use borrow.Author.Tests.{lt-ltb, le-ltb}
use Rattle.meaning.specs.Answers.{output}
use Rattle.marks.proofs.give_marks.Goals as goal

pub returns-then-out-n : goal.returns-then-out-n
unfolding output
returns-then-out-n c = rw (← c.count_marks-n.ensures.0, lt-ltb _ _ c.if-out-n.true) (refl, refl)

pub returns : goal.returns
unfolding output
returns c = rw (← c.count_marks-n.ensures.0, le-ltb _ _ c.if-out-n.false) (refl, rw c.count_marks-n.ensures.0 c.list_marks.ensures)

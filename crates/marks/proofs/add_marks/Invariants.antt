-- `marks::add_marks` meets its contract. The loop's invariant: the nodes passed are marked besides what was.
-- Assumes nothing.
use Rattle.meaning.proofs.Marks.{Added}
use Rattle.marks.proofs.add_marks.Given as goal

abbrev pub invariant-loop-node : goal.invariant-loop-node
invariant-loop-node l = Added l.list l.initial.marks l.node-index l.marks

-- `Linked::add_row` keeps its type's promise: the marks of the rows before with those of this row. Assumes nothing.
use Rattle.std.proofs.Common.{arith}
use Rattle.path_check.proofs.Passes.{marks_more}
use Rattle.path_check.proofs.links.Linked.add_row.Goals as goal

pub invariant_of-self : goal.invariant_of-self
invariant_of-self c = record {
  marked = marks_more _ _ _ _ _ c.args.self.now.marked c.first_link-a.ensures.0 c.second_link-b.ensures.0 (omega arith) (omega arith);
}

-- `Linked::by_none` keeps its type's promise: below the first row no row links. Assumes nothing.
use Rattle.path_check.proofs.Passes.{marks_start}
use Rattle.path_check.proofs.links.Linked.by_none.Goals as goal

pub invariant_of-result : goal.invariant_of-result
invariant_of-result c = record { marked = marks_start _ 257 }

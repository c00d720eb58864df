-- `Linked::add_all` meets its contract. The invariant: the rows passed are those whose links are marked. Assumes nothing.
use Rattle.std.proofs.Common.{◌≡◌}
use Rattle.path_check.proofs.links.Linked.add_all.Given as goal

abbrev pub invariant-loop : goal.invariant-loop
invariant-loop l = (l.self.path.now ≡ l.rows.path.now) × (l.self.rows ≡ l.counter)

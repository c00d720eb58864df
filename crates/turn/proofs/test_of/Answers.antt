-- The answers of `turn::test_of`: a step's test is read from its row. Assumes nothing.
use Rattle.std.proofs.Common.{rules}
use Rattle.meaning.specs.Turning.{test}
use Rattle.meaning.proofs.Trees.{tree_row}
use Rattle.turn.proofs.test_of.Goals as goal

pub returns-in-Some : goal.returns-in-Some
unfolding test
returns-in-Some c = search (rules, tree_row)

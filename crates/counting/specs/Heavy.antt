-- What takes more than passes over the rows: a choice of the evaluator's, and no rule of document 01.
-- Assumes nothing: these are definitions.
use Rattle.std.specs.Prelude.{Bool, false, ◌&&◌, ◌||◌, eqb}
use Rattle.meaning.specs.Rows.{code}
use Rattle.meaning.specs.Tree.{Tree, none, node}
use Rattle.meaning.specs.Turning.{counting}

-- does anything in a tree need a look at each node: op 21, a count of a path, or a step, op 24, that counts?
unfoldable pub heavy : Tree → Bool
heavy none = false
heavy (node op a b c d) = (eqb (code op) 21 || (eqb (code op) 24 && counting b)) || (heavy a || heavy b)

-- A path's rows read as a tree (document 01, "The path form"): a row with its links followed.
-- Assumes nothing: these are definitions.
use Rattle.std.specs.Prelude.{ℕ, zero, suc, ◌+◌, max, cond, List}
use Rattle.meaning.specs.Rows.{op_at, field, first_link, second_link, is_literal, is_step, is_path}
use Rattle.meaning.specs.declared.Op.{Op}

-- the most paths around each other
abbrev pub most_depth : ℕ
most_depth = 8

-- an op over the trees of a and b; two plain numbers end a node: a literal's index, or a step's axis and test
pub data Tree : Type 0 where
  none : Tree
  node : Op → Tree → Tree → ℕ → ℕ → Tree

-- the plain numbers of row r: a literal's index or a step's axis, and a step's test; 0 where its op has none
unfoldable pub index_or_axis : List ℕ → ℕ → ℕ
index_or_axis p r = cond (is_literal (op_at p r)) (field p r 1) (cond (is_step (op_at p r)) (field p r 3) 0)

unfoldable pub test_at : List ℕ → ℕ → ℕ
test_at p r = cond (is_step (op_at p r)) (field p r 4) 0

-- the tree that the link l stands for, fields that its op does not use left out; fuel bounds the depth
unfoldable pub linked : ℕ → List ℕ → ℕ → Tree
linked zero p l = none
linked (suc fuel) p zero = none
linked (suc fuel) p (suc r) =
    node (op_at p r) (linked fuel p (first_link p r)) (linked fuel p (second_link p r)) (index_or_axis p r) (test_at p r)

-- a link names a lower row, so the link itself is fuel enough
unfoldable pub tree : List ℕ → ℕ → Tree
tree p l = linked l p l

-- the top path has depth 1, a path under op 20 or 21 one more than the path around it
unfoldable pub depth : Tree → ℕ
depth none = 0
depth (node op a b c d) = max (depth a) (depth b) + cond (is_path op) 1 0

-- What the arrays hold that the checker's passes fill.
-- Assumes nothing: these are definitions.
use Rattle.std.specs.Prelude.{ℕ, ◌≤◌, ◌≡◌, Bool, false, List, get_or}
use Rattle.meaning.specs.Rows.{linked_below}
use Rattle.meaning.specs.Tree.{tree, depth}

-- the marks are those of the links that a row below n holds
abbrev pub Marks : List ℕ → ℕ → List Bool → Type 0
Marks p n marks = (l : ℕ) → get_or marks l false ≡ linked_below p n l

-- up to link n each link's depth stands at its number
unfoldable pub Depths : List ℕ → ℕ → List ℕ → Type 0
Depths p n depths = (l : ℕ) → l ≤ n → get_or depths l 0 ≡ depth (tree p l)

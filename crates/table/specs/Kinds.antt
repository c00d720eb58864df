-- What a kind's number says that a node is (document 01, "The node table"; document 02, W-209).
-- Assumes nothing: this is a definition.
use Rattle.std.specs.Prelude.{ℕ, [], ◌∷◌, get_or}
use Rattle.table.specs.declared.Kind.{Kind}
use Rattle.table.specs.declared.Kind.TheVariants.{Root, Element, Text, Comment, Instruction, Attribute, Unknown}

-- the kind with a number; no kind has a number above 5
unfoldable pub kind_of : ℕ → Kind
kind_of n = get_or (Root ∷ Element ∷ Text ∷ Comment ∷ Instruction ∷ Attribute ∷ []) n Unknown

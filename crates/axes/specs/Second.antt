-- What a test of an edition is in edition 2 (document 02, W-210).
-- Assumes nothing: this is a definition.
use Rattle.std.specs.Prelude.{ℕ, cond, eqb}
use Rattle.meaning.specs.declared.Test.{Test}
use Rattle.meaning.specs.declared.Test.TheVariants.{AnyNode, Star, Text, Comment, Instruction, Named}

-- the test that says in edition 2 what a test says in an edition: node() for the `*` of edition 1
unfoldable pub in_second : ℕ → Test → Test
in_second edition AnyNode = AnyNode
in_second edition Star = cond (eqb edition 1) AnyNode Star
in_second edition Text = Text
in_second edition Comment = Comment
in_second edition Instruction = Instruction
in_second edition (Named name) = Named name

-- `tokens::words::type_kind` meets its contract: its table has the classes of the definition's words. Assumes nothing.
use Rattle.std.proofs.Common.{refl, [], ◌∷◌}
use Rattle.text.specs.Grammar.{NodeType, 'processing_instruction', FunctionName}
use Rattle.text.specs.Tokens.{node_type, node_types, class_among, code}
use Rattle.tokens.specs.declared.Class.TheVariants.{Instruction}
use Rattle.tokens.specs.declared.Class.TheVariants as C
use Rattle.tokens.proofs.Sought.{class_told}
use Rattle.tokens.proofs.words.type_kind.Goals as goal

pub returns : goal.returns
unfolding node_type node_types class_among code
returns c = rw c.class_among.ensures (class_told (C.NodeType ∷ C.NodeType ∷ Instruction ∷ C.NodeType ∷ []) (NodeType ∷ NodeType ∷ 'processing_instruction' ∷ NodeType ∷ []) C.FunctionName FunctionName _ refl refl)

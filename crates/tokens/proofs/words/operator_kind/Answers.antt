-- `tokens::words::operator_kind` meets its contract: its table has the classes of the definition's words. Assumes nothing.
use Rattle.std.proofs.Common.{refl, [], ◌∷◌}
use Rattle.text.specs.Grammar.{'and', 'or', 'mod', 'div', unknown}
use Rattle.text.specs.Tokens.{operator_name, operator_names, class_among, code}
use Rattle.tokens.specs.declared.Class.TheVariants.{And, Or, Mod, Div, Unknown}
use Rattle.tokens.proofs.Sought.{class_told}
use Rattle.tokens.proofs.words.operator_kind.Goals as goal

pub returns : goal.returns
unfolding operator_name operator_names class_among code
returns c = rw c.class_among.ensures (class_told (And ∷ Or ∷ Mod ∷ Div ∷ []) ('and' ∷ 'or' ∷ 'mod' ∷ 'div' ∷ []) Unknown unknown _ refl refl)

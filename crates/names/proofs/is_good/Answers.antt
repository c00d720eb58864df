-- The answers of `names::is_good`: a letter, and name bytes behind it.
use Rattle.std.proofs.Common.{sym, ◌∙◌, drop, rules, arith}
use borrow.Author.Tests.{tests}
use Rattle.std.proofs.lemmas.Iterator.{YieldsList-from_slice}
use Rattle.std.proofs.lemmas.Iterator.Search.{all_from_yields_List}
use Rattle.names.specs.Names.{is_name_byte}
use Rattle.names.proofs.Words.{rest, good_at, good_none, all_of_name}
use Rattle.names.proofs.is_good.Goals as goal

pub returns-in-empty : goal.returns-in-empty
returns-in-empty c = sym (good_none _ (omega arith))

pub returns-then-is_letter : goal.returns-then-is_letter
returns-then-is_letter c =
    let w = c.args.word.now in
    let all = all_from_yields_List is_name_byte _ _ c.all.result c.all.ensures.ran (YieldsList-from_slice (drop 1 w) (c.iter.ensures.rest ∙ rest w 1)) (λ x b q k. search (rules, tests)) in
    let letter = sym c.is_letter.ensures ∙ c.if-is_letter.true in
    all ∙ all_of_name (drop 1 w) ∙ sym (good_at w (omega arith) ∙ rw letter)

pub returns-else-is_letter : goal.returns-else-is_letter
returns-else-is_letter c =
    let letter = sym c.is_letter.ensures ∙ c.if-is_letter.false in
    c.if-is_letter.false ∙ sym (good_at c.args.word.now (omega arith) ∙ rw letter)

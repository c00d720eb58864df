-- `compose::words::name_number`: a name is in the list, and its number is at most 65,535.
use Rattle.std.proofs.Common.{sym, ap, ◌∙◌, arith}
use Rattle.std.specs.Option.{unwrap_or}
use Rattle.names.specs.Names.{names_of, is_named, number_of}
use Rattle.text.specs.Tokens.{between}
use Rattle.compose.proofs.Spelling.{name_most, number_or_none}
use Rattle.compose.proofs.words.name_number.Goals as goal

pub returns-then-is_star : goal.returns-then-is_star
returns-then-is_star c = rw (sym c.is_star.ensures ∙ c.if-is_star.true)

-- the number that is looked up
pub overflow_add-result : goal.overflow_add-result
overflow_add-result c =
    let names = names_of c.args.names.now.list.now in
    let word = between c.args.text.now c.args.begin c.args.end in
    let number = c.unwrap_or-number.ensures ∙ (ap (λ o. unwrap_or o 0) c.number_of.ensures ∙ number_or_none (is_named names word) (number_of names word)) in
    omega (arith, number, name_most names word c.args.names.now.indexed.fine)

pub overflow_cast-result : goal.overflow_cast-result
overflow_cast-result c =
    let names = names_of c.args.names.now.list.now in
    let word = between c.args.text.now c.args.begin c.args.end in
    let number = c.unwrap_or-number.ensures ∙ (ap (λ o. unwrap_or o 0) c.number_of.ensures ∙ number_or_none (is_named names word) (number_of names word)) in
    omega (arith, number, name_most names word c.args.names.now.indexed.fine)

pub returns : goal.returns
returns c =
    let names = names_of c.args.names.now.list.now in
    let word = between c.args.text.now c.args.begin c.args.end in
    let number = c.unwrap_or-number.ensures ∙ (ap (λ o. unwrap_or o 0) c.number_of.ensures ∙ number_or_none (is_named names word) (number_of names word)) in
    let star = sym c.is_star.ensures ∙ c.if-is_star.false in
    rw (star, number, c.requires.2 star)

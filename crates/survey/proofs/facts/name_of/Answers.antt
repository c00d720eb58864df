-- The answers of `survey::facts::name_of`: a function's name is the whole token.
use Rattle.std.proofs.Common.{◌∙◌, arith}
use borrow.Author.Tests.{ne_eqb}
use Rattle.survey.specs.Standing.{name_at}
use Rattle.survey.proofs.Words.{reads_within, function_word}
use Rattle.survey.proofs.facts.name_of.Goals as goal

pub returns-in-11 : goal.returns-in-11
unfolding name_at
returns-in-11 c = rw c.in-11.is

pub slice_bounds-function_number-count : goal.slice_bounds-function_number-count
slice_bounds-function_number-count c = (reads_within c.requires).0

pub slice_bounds-function_number-start : goal.slice_bounds-function_number-start
slice_bounds-function_number-start c = (reads_within c.requires).0

pub slice_bounds-function_number-end : goal.slice_bounds-function_number-end
slice_bounds-function_number-end c = (reads_within c.requires).1

pub returns-in-12 : goal.returns-in-12
unfolding name_at
returns-in-12 c = c.function_number.ensures ∙ rw (c.in-12.is, function_word c.requires c.in-12.is)

pub returns-in_default : goal.returns-in_default
unfolding name_at
returns-in_default c =
    let k = c.args.kind in
    rw (ne_eqb k 11 (λ z. omega (arith, z)), ne_eqb k 12 (λ z. omega (arith, z)))

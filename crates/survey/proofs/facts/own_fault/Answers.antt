-- The answers of `survey::facts::own_fault`: the token is its whole name, or its whole number.
use Rattle.std.proofs.Common.{◌∙◌, arith}
use borrow.Author.Tests.{ne_eqb, le-leb, lt-leb, lt-ltb, le-ltb}
use Rattle.levels.specs.Levels.{own_of}
use Rattle.text.specs.Limited.{source, holds_axis}
use Rattle.survey.proofs.Words.{reads_as, reads_within, axis_word, number_bytes}
use Rattle.survey.proofs.facts.own_fault.Goals as goal

pub name_fault-requires : goal.name_fault-requires
name_fault-requires c = reads_as c.in-9.is c.requires

pub returns-in-9 : goal.returns-in-9
returns-in-9 c = c.name_fault.ensures ∙ rw c.in-9.is

pub slice_bounds-axis_number-count : goal.slice_bounds-axis_number-count
slice_bounds-axis_number-count c = (reads_within c.requires).0

pub slice_bounds-axis_number-start : goal.slice_bounds-axis_number-start
slice_bounds-axis_number-start c = (reads_within c.requires).0

pub slice_bounds-axis_number-end : goal.slice_bounds-axis_number-end
slice_bounds-axis_number-end c = (reads_within c.requires).1

pub returns-then-axis_number-gt11 : goal.returns-then-axis_number-gt11
unfolding own_of source holds_axis
returns-then-axis_number-gt11 c =
    let word = axis_word c.requires c.in-13.is in
    rw (c.in-13.is, ← word, ← c.axis_number.ensures, lt-leb _ _ c.if-axis_number-gt11.true)

pub returns-else-axis_number-gt11 : goal.returns-else-axis_number-gt11
unfolding own_of source holds_axis
returns-else-axis_number-gt11 c =
    let word = axis_word c.requires c.in-13.is in
    rw (c.in-13.is, ← word, ← c.axis_number.ensures, le-leb _ _ c.if-axis_number-gt11.false)

pub slice_bounds-digit_count-count : goal.slice_bounds-digit_count-count
slice_bounds-digit_count-count c = (reads_within c.requires).0

pub slice_bounds-digit_count-start : goal.slice_bounds-digit_count-start
slice_bounds-digit_count-start c = (reads_within c.requires).0

pub slice_bounds-digit_count-end : goal.slice_bounds-digit_count-end
slice_bounds-digit_count-end c = (reads_within c.requires).1

pub returns-then-digit_count-gt15 : goal.returns-then-digit_count-gt15
unfolding own_of source
returns-then-digit_count-gt15 c =
    let bytes = number_bytes c.requires c.in-15.is in
    rw (c.in-15.is, ← bytes, ← c.digit_count.ensures, lt-ltb _ _ c.if-digit_count-gt15.true)

pub returns-else-digit_count-gt15 : goal.returns-else-digit_count-gt15
unfolding own_of source
returns-else-digit_count-gt15 c =
    let bytes = number_bytes c.requires c.in-15.is in
    rw (c.in-15.is, ← bytes, ← c.digit_count.ensures, le-ltb _ _ c.if-digit_count-gt15.false)

pub returns-in-16 : goal.returns-in-16
unfolding own_of source
returns-in-16 c = rw c.in-16.is

pub returns-in_default : goal.returns-in_default
unfolding own_of source
returns-in_default c =
    let k = c.args.kind in
    rw (ne_eqb k 9 (λ z. omega (arith, z)), ne_eqb k 13 (λ z. omega (arith, z)), ne_eqb k 15 (λ z. omega (arith, z)), ne_eqb k 16 (λ z. omega (arith, z)))

-- `compose::words::word_number` meets its contract, by the class of the token.
-- Assumes nothing.
use native.Mathlib.Omega.{arith}
use Rattle.text.specs.Tokens.{between}
use Rattle.compose.proofs.Spelling.{type_most, function_most, axis_most, number_at_lem, number_name, number_type, number_instruction, number_call, number_axis, number_none}
use Rattle.compose.proofs.words.word_number.Goals as goal

pub name_number-requires : goal.name_number-requires
name_number-requires c = (
  c.requires.ordered,
  c.requires.within,
  λ s. (c.requires.test_ends c.in-9.is s).1,
)

pub overflow_cast-result : goal.overflow_cast-result
overflow_cast-result c = record {
  fits = omega (
    arith,
    c.type_number.ensures,
    type_most
        (between c.args.text.now
        c.args.begin
        c.args.end),
  );
}

pub overflow_cast-result-in-12 : goal.overflow_cast-result-in-12
overflow_cast-result-in-12 c = record {
  fits = omega (
    arith,
    c.function_number.ensures,
    function_most
        (between c.args.text.now
        c.args.begin
        c.args.end),
  );
}

pub overflow_cast-result-in-13 : goal.overflow_cast-result-in-13
overflow_cast-result-in-13 c = record {
  fits = omega (
    arith,
    c.axis_number.ensures,
    axis_most
        (between c.args.text.now
        c.args.begin
        c.args.end),
  );
}

pub returns-in-6 : goal.returns-in-6
returns-in-6 c = λ i p. number_at_lem c.args.text.now
    c.args.names.now.list.now i c.args.begin
    p c.args.kind c.in-6.is

pub returns-in-9 : goal.returns-in-9
returns-in-9 c = λ i p. number_name c.args.text.now
    c.args.names.now.list.now i
    c.args.begin p
    c.args.kind _
    c.args.end c.in-9.is
    (λ s. (c.requires.test_ends c.in-9.is s).0)
    c.name_number.ensures

pub returns-in-10 : goal.returns-in-10
returns-in-10 c = λ i p. number_type c.args.text.now
    c.args.names.now.list.now i
    c.args.begin p
    c.args.kind _
    c.args.end c.in-10.is
    (c.requires.type_ends c.in-10.is) c.type_number.ensures

pub returns-in-11 : goal.returns-in-11
returns-in-11 c = λ i p. number_instruction c.args.text.now
    c.args.names.now.list.now i c.args.begin
    p c.args.kind c.in-11.is

pub returns-in-12 : goal.returns-in-12
returns-in-12 c = λ i p. number_call c.args.text.now
    c.args.names.now.list.now i
    c.args.begin p
    c.args.kind _
    c.args.end c.in-12.is
    (c.requires.call_ends c.in-12.is) c.function_number.ensures

pub returns-in-13 : goal.returns-in-13
returns-in-13 c = λ i p. number_axis c.args.text.now
    c.args.names.now.list.now i
    c.args.begin p
    c.args.kind _
    c.args.end c.in-13.is
    (c.requires.axis_ends c.in-13.is) c.axis_number.ensures

pub returns-in_default : goal.returns-in_default
returns-in_default c =
    let rest = c.in_default.in_default-own.rest in
    λ i p. number_none c.args.text.now
    c.args.names.now.list.now i c.args.begin
    p c.args.kind rest.0.0.0.0.0.1 rest.0.0.0.0.1 rest.0.0.0.1
    rest.0.0.1 rest.0.1 rest.1

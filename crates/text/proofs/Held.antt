-- A construct without faults is held as a tree that fits its place: numbers, truths and paths by its sort, steps behind steps, predicates
-- behind predicates. First one law for each kind of construct, from its parts; then every production, and so every derivation.
-- Assumes nothing.
use Rattle.text.specs.declared.Function.{Function}
use Rattle.text.specs.declared.Function.TheVariants.{PositionCall, LastCall, CountCall, NotCall, BooleanCall, OtherCall}
use Prim.Native.Nat.{ℕ, suc, ◌+◌, ◌<◌, ◌≤◌}
use mathlib.Core.Path.{◌≡◌, refl, sym, subst, ◌∙◌}
use mathlib.Core.Logic.{inl, inr}
use mathlib.Core.Bool.{Bool, true, false, ◌&&◌, ◌||◌, not, cond, true≢false}
use mathlib.Core.List.{List, [], ◌∷◌, ◌++◌}
use lib.ListN.{length, get_or}
use lib.Dec.{T, eqb, leb, ltb, ltb→lt, le→leb, eqb→eq}
use lib.Ieee.{Float}
use native.Mathlib.Omega.{arith}
use Rattle.meaning.specs.Axis.{last_axis}
use Rattle.meaning.specs.declared.Op.TheVariants.{Absolute, Add, And, Count, Divide, Equal, Exists, Greater, GreaterEqual, Last, Less, LessEqual, Multiply, Negate, Negation, Or, Position, Predicate, Relative, Remainder, Step, Subtract, TruthOf, Unequal}
use Rattle.meaning.specs.declared.Field.TheVariants.{ExpressionLink, NumberLink, PathLink, PredicateOrNone, StepLink, StepOrNone, TruthLink}
use Rattle.meaning.specs.Rows.{code, fields_of, takes, is_number, is_truth, is_path, is_predicate, good_test}
use Rattle.meaning.specs.Tree.{Tree, none, node}
use Rattle.meaning.proofs.Bools.{truly, untrue, and_i, or_i_l, or_i_r, or_none_r, lt_or_ge}
use Rattle.meaning.proofs.Lists.{below_none}
use Rattle.names.specs.Names.{position, same, good_name, most_names, bad_line, bad_names, is_named, number_of}
use Rattle.text.specs.declared.Sort.{Sort}
use Rattle.text.specs.declared.Sort.TheVariants.{Numeral, Truth, Nodes, Unheld}
use Rattle.text.specs.Grammar.{Token, opening, dot, dots, at, NameTest, NodeType, 'processing_instruction', FunctionName, AxisName, Literal, Number, VariableReference, '/', '//', '|', '+', '-', '=', '!=', '<', '<=', '>', '>=', MultiplyOperator, 'and', 'or', 'div', 'mod', unknown}
use Rattle.text.specs.Grammar.{Symbol, the, LocationPath, AbsoluteLocationPath, RelativeLocationPath, Step, AxisSpecifier, NodeTest, Predicates, Predicate, PredicateExpr, AbbreviatedAbsoluteLocationPath, AbbreviatedRelativeLocationPath, AbbreviatedStep, AbbreviatedAxisSpecifier, Expr, PrimaryExpr, FunctionCall, Arguments, Argument, UnionExpr, PathExpr, FilterExpr, OrExpr, AndExpr, EqualityExpr, RelationalExpr, AdditiveExpr, MultiplicativeExpr, UnaryExpr, productions, Sentence}
use Rattle.text.specs.Syntax.{Kind, number, string, variable, group, call, arguments, negative, binary, union, filter, onward, relative, absolute, chain, step, self, parent, axis, attribute, named, typed, instruction, target, predicates, is_kind, Syntax, blank, part, token_of, readings, made}
use Rattle.text.specs.Tokens as L
use Rattle.text.specs.Growing.{tightness, syntax_of}
use Rattle.text.specs.declared.Fault.{Fault}
use Rattle.text.specs.Limited.{Source, place, word_of, is_star, has_prefix, function_of, holds_call, axis_number, holds_axis, value_at, result_of, arity, is_held_call, call_sort, operator_sort, sort, fault, number_taken, path_taken, as_number, as_path, name_faults, argument_faults, own, faults, text_faults}
use Rattle.text.specs.Reading.{values, index_of, operation, as_truth, as_predicate, called, operand_of, descended, axis_of, name_number, type_number, test_of, held}
use Rattle.text.proofs.Scheme.{View, a_token, a_name, Every, reads}
use Rattle.text.proofs.Tree.{the_tree}
use Rattle.text.proofs.Literals.{Known, each_front, each_rear}
use Rattle.text.proofs.Faults.{front_none, rear_none, faulty, passed}
use Rattle.text.proofs.Fits.{Fits, op_fits, step_fits, literal_fits, none_unused, no_step, no_predicate, some_steps, number_expression, truth_expression}

-- ---- numbers of names, axes and node types

position_le : (words : List (List ℕ)) (w : List ℕ) → position words w ≤ length words
unfolding position
position_le [] w = omega arith
position_le (v ∷ vs) w = decide (same v w) (position_le vs w)
  where
    decide : (b : Bool) → position vs w ≤ length vs → cond b 0 (suc (position vs w)) ≤ suc (length vs)
    decide true h = omega arith
    decide false h = omega arith

-- a list of names that is not refused has at most 65,535
few_names : (names : List (List ℕ)) → bad_names names ≡ false → length names ≤ most_names
unfolding bad_names bad_line
few_names names h = elim (lt_or_ge most_names (length names)) [
  | inl l ↦
      let bad : leb most_names most_names ≡ false =
      or_none_r (not (good_name (get_or names most_names [])) || ltb (position names (get_or names most_names [])) most_names)
      (leb most_names most_names)
      (below_none (bad_line names) (length names) h most_names l) in
      absurd (untrue bad tt)
  | inr l ↦ l
]

-- the number of a name of the list is a test
name_test : (names : List (List ℕ)) (w : List ℕ) → bad_names names ≡ false → is_named names w ≡ true → T (good_test (16 + number_of names w))
unfolding is_named number_of good_test
name_test names w h k =
    let n : ℕ = 16 + (position names w + 1) in
    let low : 17 ≤ n = omega arith in
    let below : position names w < length names = ltb→lt (position names w) (length names) (truly k) in
    let high : n ≤ 65551 = omega (arith, few_names names h, below) in
    or_i_r (leb n 4) (leb 17 n && leb n 65551) (and_i (leb 17 n) (leb n 65551) (le→leb 17 n low) (le→leb n 65551 high))

type_test : (w : List ℕ) → T (good_test (type_number w))
unfolding type_number good_test
type_test w =
    let n : ℕ = type_number w in
    or_i_l (leb n 4) (leb 17 n && leb n 65551) (le→leb n 4 (position_le _ w))

-- ---- sorts

module _ (n : ℕ) where
  -- a tree fits a sort
  abbrev FitsSort : Sort → Tree → Type 0
  FitsSort Numeral t = Fits n NumberLink t
  FitsSort Truth t = Fits n TruthLink t
  FitsSort Nodes t = Fits n PathLink t
  FitsSort Unheld t = ⊥

  as_number_lem : (u : Sort) (t : Tree) → number_taken u ≡ true → FitsSort u t → Fits n NumberLink t
  unfolding number_taken
  as_number_lem Numeral t e h = h
  as_number_lem Truth t e h = absurd (true≢false (sym e))
  as_number_lem Nodes t e h = absurd (true≢false (sym e))
  as_number_lem Unheld t e h = absurd h

  as_path_lem : (u : Sort) (t : Tree) → path_taken u ≡ true → FitsSort u t → Fits n PathLink t
  unfolding path_taken
  as_path_lem Numeral t e h = absurd (true≢false (sym e))
  as_path_lem Truth t e h = absurd (true≢false (sym e))
  as_path_lem Nodes t e h = h
  as_path_lem Unheld t e h = absurd h

  -- where a truth is wanted there is one, and a whole predicate is a number or a truth
  as_truth_lem : (u : Sort) (t : Tree) → FitsSort u t → Fits n TruthLink (as_truth u t)
  unfolding as_truth takes is_truth code fields_of
  as_truth_lem Numeral t h = op_fits n TruthLink TruthOf t none tt h (none_unused n)
  as_truth_lem Truth t h = h
  as_truth_lem Nodes t h = op_fits n TruthLink Exists t none tt h (none_unused n)
  as_truth_lem Unheld t h = absurd h

  as_predicate_lem : (u : Sort) (t : Tree) → FitsSort u t → Fits n ExpressionLink (as_predicate u t)
  unfolding as_predicate takes is_number is_truth code fields_of
  as_predicate_lem Numeral t h = number_expression n t h
  as_predicate_lem Truth t h = truth_expression n t h
  as_predicate_lem Nodes t h = op_fits n ExpressionLink Exists t none tt h (none_unused n)
  as_predicate_lem Unheld t h = absurd h

  -- `//` adds a step
  descends : (t : Token) (before : Tree) → Fits n StepOrNone before → Fits n StepOrNone (descended t before)
  unfolding descended good_test
  descends t before h = decide (eqb (L.code t) (L.code '//'))
    where
      decide : (b : Bool) → Fits n StepOrNone (cond b (node Step before none 5 0) before)
      decide true = some_steps n (node Step before none 5 0) (step_fits n before none 5 0 h (no_predicate n) tt tt)
      decide false = h

module _ (s : Source) (l : List Float) where
  -- the literals' number
  abbrev n : ℕ
  n = length l

  -- a construct without faults, of whose number literals every value is one of the literals
  pub record Clean (x : Syntax) : Type 0 where
    pub faultless : faults s x ≡ []
    pub known : Known l (values s x)

  module _ {k : Kind} {t : Token} {i : ℕ} {a b c : Syntax} (clean : Clean (part k t i a b c)) where
    own_clean : own s k t i a c ≡ []
    unfolding faults
    own_clean = front_none (own s k t i a c) _ clean.faultless

    parts_faultless : faults s a ++ (faults s b ++ faults s c) ≡ []
    unfolding faults
    parts_faultless = rear_none (own s k t i a c) _ clean.faultless

    parts_known : is_kind k number ≡ false → Known l (values s a ++ (values s b ++ values s c))
    unfolding values
    parts_known e = rw e at clean.known

    first_clean : is_kind k number ≡ false → Clean a
    first_clean e = record {
      faultless = front_none (faults s a) _ parts_faultless;
      known = each_front (λ v. index_of l v < n) (values s a) _ (parts_known e);
    }

    second_clean : is_kind k number ≡ false → Clean b
    second_clean e = record {
      faultless = front_none (faults s b) (faults s c) (rear_none (faults s a) _ parts_faultless);
      known = each_front (λ v. index_of l v < n) (values s b) (values s c) (each_rear (λ v. index_of l v < n) (values s a) _ (parts_known e));
    }

    third_clean : is_kind k number ≡ false → Clean c
    third_clean e = record {
      faultless = rear_none (faults s b) (faults s c) (rear_none (faults s a) _ parts_faultless);
      known = each_rear (λ v. index_of l v < n) (values s b) (values s c) (each_rear (λ v. index_of l v < n) (values s a) _ (parts_known e));
    }

  -- ---- what each name of the grammar promises of its construct

  -- the tree of a construct with nothing before it
  abbrev alone : Syntax → Tree
  alone x = held s l none x

  -- an expression fits its sort
  abbrev Expression : Syntax → Type 0
  Expression x = Clean x → FitsSort n (sort s x) (alone x)

  -- an argument, where there is one
  abbrev Argued : Syntax → Type 0
  Argued x = Clean x → 0 < arity x → FitsSort n (sort s x) (alone x)

  -- steps behind steps are steps
  abbrev Walks : Syntax → Type 0
  Walks x = Clean x → (before : Tree) → Fits n StepOrNone before → Fits n StepLink (held s l before x)

  -- predicates behind predicates
  abbrev Keeps : Syntax → Type 0
  Keeps x = Clean x → (before : Tree) → Fits n PredicateOrNone before → Fits n PredicateOrNone (held s l before x)

  abbrev AxisGood : Syntax → Type 0
  AxisGood x = Clean x → T (leb (axis_of s x) last_axis)

  abbrev TestGood : Syntax → Type 0
  TestGood x = Clean x → T (good_test (test_of s x))

  -- ---- expressions

  -- string literals, variables, unions, filters and steps from an expression have a fault of their own
  unheld : (k : Kind) (t : Token) (i : ℕ) (a c : Syntax) {f : Fault} → own s k t i a c ≡ f ∷ [] → Expression (part k t i a blank c)
  unheld k t i a c e clean = faulty (sym e ∙ own_clean clean)

  number_held : (i : ℕ) → Expression (part number Number i blank blank blank)
  unfolding sort held values
  number_held i clean = literal_fits n (index_of l (value_at s.text (place s i))) clean.known.0

  group_held : (i : ℕ) (c : Syntax) → Expression c → Expression (part group opening i blank blank c)
  unfolding sort held
  group_held i c h clean = h (third_clean clean refl)

  argument_held : (i : ℕ) (a c : Syntax) → Expression c → Expression (part arguments unknown i a blank c)
  unfolding sort held
  argument_held i a c h clean = h (third_clean clean refl)

  negative_held : (i : ℕ) (c : Syntax) → Expression c → Expression (part negative '-' i blank blank c)
  unfolding sort held own as_number takes is_number code fields_of
  negative_held i c h clean =
      op_fits n NumberLink Negate (alone c) none tt
      (as_number_lem n (sort s c) (alone c) (passed (number_taken (sort s c)) _ (own_clean clean)) (h (third_clean clean refl))) (none_unused n)

  -- a call that is held, over its argument where it has one
  called_fits :
      (f : Function) (c : Syntax) → T (holds_call f (arity c)) → argument_faults s f c ≡ [] → (0 < arity c → FitsSort n (sort s c) (alone c))
      → FitsSort n (result_of f) (called f (sort s c) (alone c))
  unfolding holds_call argument_faults result_of called as_path takes is_number is_truth code fields_of
  called_fits PositionCall c g e h = op_fits n NumberLink Position none none tt (none_unused n) (none_unused n)
  called_fits LastCall c g e h = op_fits n NumberLink Last none none tt (none_unused n) (none_unused n)
  called_fits CountCall c g e h =
      let one : arity c ≡ 1 = eqb→eq (arity c) 1 g in
      op_fits n NumberLink Count (alone c) none tt
      (as_path_lem n (sort s c) (alone c) (passed (path_taken (sort s c)) _ e) (h (omega arith))) (none_unused n)
  called_fits NotCall c g e h =
      let one : arity c ≡ 1 = eqb→eq (arity c) 1 g in
      op_fits n TruthLink Negation (as_truth (sort s c) (alone c)) none tt
      (as_truth_lem n (sort s c) (alone c) (h (omega arith))) (none_unused n)
  called_fits BooleanCall c g e h =
      let one : arity c ≡ 1 = eqb→eq (arity c) 1 g in
      as_truth_lem n (sort s c) (alone c) (h (omega arith))
  called_fits OtherCall c g e h = absurd g

  call_held : (i : ℕ) (c : Syntax) → Argued c → Expression (part call FunctionName i blank blank c)
  unfolding sort held own call_sort
  call_held i c h clean = decide (is_held_call s i c) refl (own_clean clean)
    where
      decide :
          (b : Bool) → is_held_call s i c ≡ b → cond b (argument_faults s (function_of (word_of s i)) c) (fault s 26 i) ≡ []
          → FitsSort n (cond (is_held_call s i c) (result_of (function_of (word_of s i))) Unheld)
          (called (function_of (word_of s i)) (sort s c) (alone c))
      decide true q e = rw q (called_fits (function_of (word_of s i)) c (truly q) e (h (third_clean clean refl)))
      decide false q e = faulty e

  -- an op over two numbers, and over two truths
  numbers_held :
      (t : Token) (i : ℕ) (a c : Syntax) → leb 3 (tightness t) ≡ true → leb (tightness t) 2 ≡ false
      → ((x y : Tree) → Fits n NumberLink x → Fits n NumberLink y → FitsSort n (operator_sort t) (node (operation t) x y 0 0))
      → Expression a → Expression c → Expression (part binary t i a blank c)
  unfolding sort held own as_number operand_of
  numbers_held t i a c e f op ha hc clean =
      let both : as_number s a ++ as_number s c ≡ [] = rw e at (own_clean clean) in
      rw f (op (alone a) (alone c)
      (as_number_lem n (sort s a) (alone a) (passed (number_taken (sort s a)) _ (front_none (as_number s a) (as_number s c) both))
      (ha (first_clean clean refl)))
      (as_number_lem n (sort s c) (alone c) (passed (number_taken (sort s c)) _ (rear_none (as_number s a) (as_number s c) both))
      (hc (third_clean clean refl))))

  truths_held :
      (t : Token) (i : ℕ) (a c : Syntax) → leb (tightness t) 2 ≡ true
      → ((x y : Tree) → Fits n TruthLink x → Fits n TruthLink y → FitsSort n (operator_sort t) (node (operation t) x y 0 0))
      → Expression a → Expression c → Expression (part binary t i a blank c)
  unfolding sort held operand_of
  truths_held t i a c e op ha hc clean =
      rw e (op (as_truth (sort s a) (alone a)) (as_truth (sort s c) (alone c))
      (as_truth_lem n (sort s a) (alone a) (ha (first_clean clean refl))) (as_truth_lem n (sort s c) (alone c) (hc (third_clean clean refl))))

  -- ---- paths

  relative_held : (i : ℕ) (c : Syntax) → Walks c → Expression (part relative unknown i blank blank c)
  unfolding sort held takes is_path code fields_of
  relative_held i c h clean =
      op_fits n PathLink Relative (alone c) none tt (h (third_clean clean refl) none (no_step n)) (none_unused n)

  absolute_held : (t : Token) (i : ℕ) (c : Syntax) → Walks c → Expression (part absolute t i blank blank c)
  unfolding sort held takes is_path code fields_of
  absolute_held t i c h clean =
      op_fits n PathLink Absolute (held s l (descended t none) c) none tt
      (some_steps n (held s l (descended t none) c) (h (third_clean clean refl) (descended t none) (descends n t none (no_step n))))
      (none_unused n)

  root_held : (i : ℕ) → Expression (part absolute '/' i blank blank blank)
  unfolding sort held takes is_path code fields_of
  root_held i clean = op_fits n PathLink Absolute (descended '/' none) none tt (descends n '/' none (no_step n)) (none_unused n)

  chain_held : (t : Token) (i : ℕ) (a c : Syntax) → Walks a → Walks c → Walks (part chain t i a blank c)
  unfolding held
  chain_held t i a c ha hc clean before h =
      let steps : Tree = held s l before a in
      hc (third_clean clean refl) (descended t steps) (descends n t steps (some_steps n steps (ha (first_clean clean refl) before h)))

  step_held : (i : ℕ) (a b c : Syntax) → AxisGood a → TestGood b → Keeps c → Walks (part step unknown i a b c)
  unfolding held
  step_held i a b c ha hb hc clean before h =
      step_fits n before (alone c) (axis_of s a) (test_of s b) h (hc (third_clean clean refl) none (no_predicate n))
      (ha (first_clean clean refl)) (hb (second_clean clean refl))

  self_held : (i : ℕ) → Walks (part self dot i blank blank blank)
  unfolding held good_test
  self_held i clean before h = step_fits n before none 0 0 h (no_predicate n) tt tt

  parent_held : (i : ℕ) → Walks (part parent dots i blank blank blank)
  unfolding held good_test
  parent_held i clean before h = step_fits n before none 2 0 h (no_predicate n) tt tt

  no_more : Keeps blank
  unfolding held
  no_more clean before h = h

  predicate_held : (i : ℕ) (a c : Syntax) → Expression a → Keeps c → Keeps (part predicates unknown i a blank c)
  unfolding held takes is_predicate code fields_of
  predicate_held i a c ha hc clean before h =
      let e : Tree = as_predicate (sort s a) (alone a) in
      hc (third_clean clean refl) (node Predicate before e 0 0)
      (op_fits n PredicateOrNone Predicate before e tt h (as_predicate_lem n (sort s a) (alone a) (ha (first_clean clean refl))))

  -- ---- axes and tests

  axis_good : (i : ℕ) → AxisGood (part axis AxisName i blank blank blank)
  unfolding axis_of own holds_axis
  axis_good i clean = truly (passed (leb (axis_number (word_of s i)) last_axis) _ (own_clean clean))

  attribute_good : (i : ℕ) → AxisGood (part attribute at i blank blank blank)
  unfolding axis_of
  attribute_good i clean = tt

  child_good : AxisGood blank
  unfolding axis_of
  child_good clean = tt

  name_good : bad_names s.names ≡ false → (i : ℕ) → TestGood (part named NameTest i blank blank blank)
  unfolding test_of own name_faults name_number
  name_good h i clean = decide (is_star s.text (place s i)) (has_prefix s.text (place s i)) (own_clean clean)
    where
      decide :
          (b p : Bool) → cond b [] (cond p (fault s 26 i) (cond (is_named s.names (word_of s i)) [] (fault s 24 i))) ≡ []
          → T (good_test (cond b 1 (16 + number_of s.names (word_of s i))))
      decide true p e = unfold good_test in tt
      decide false true e = faulty e
      decide false false e = name_test s.names (word_of s i) h (passed (is_named s.names (word_of s i)) _ e)

  type_good : (i : ℕ) → TestGood (part typed NodeType i blank blank blank)
  unfolding test_of
  type_good i clean = type_test (word_of s i)

  instruction_good :
      (k : Kind) (t : Token) (i : ℕ) → is_kind k named ≡ false → is_kind k typed ≡ false → TestGood (part k t i blank blank blank)
  unfolding test_of good_test
  instruction_good k t i e f clean = rw (e, f) tt

  -- ---- every production keeps its name's promise

  -- nothing is asked before a name, and its construct has the property behind it
  abbrev a : (Syntax → Type 0) → View (Unit {0})
  a P = a_name (λ g i. Unit {0}) (λ g i g' j x. P x)

  abbrev still : Unit {0} → ℕ → Token → Unit {0}
  still g i t = tt

  abbrev view : Symbol → View (Unit {0})
  view (the t) = a_token t
  view LocationPath = a Expression
  view AbsoluteLocationPath = a Expression
  view RelativeLocationPath = a Walks
  view Step = a Walks
  view AxisSpecifier = a AxisGood
  view NodeTest = a TestGood
  view Predicates = a Keeps
  view Predicate = a Expression
  view PredicateExpr = a Expression
  view AbbreviatedAbsoluteLocationPath = a Expression
  view AbbreviatedRelativeLocationPath = a Walks
  view AbbreviatedStep = a Walks
  view AbbreviatedAxisSpecifier = a AxisGood
  view Expr = a Expression
  view PrimaryExpr = a Expression
  view FunctionCall = a Expression
  view Arguments = a Expression
  view Argument = a Expression
  view UnionExpr = a Expression
  view PathExpr = a Expression
  view FilterExpr = a Expression
  view OrExpr = a Expression
  view AndExpr = a Expression
  view EqualityExpr = a Expression
  view RelationalExpr = a Expression
  view AdditiveExpr = a Expression
  view MultiplicativeExpr = a Expression
  view UnaryExpr = a Expression

  -- productions of one name, and of two with or without a token between them
  over : {P : Syntax → Type 0} {R : ℕ → Syntax → Type 0} → ((i : ℕ) (x : Syntax) → P x → R i x) → (g : Unit {0}) (i : ℕ) → Unit {0}
      → Unit {0} × ((g' : Unit {0}) (j : ℕ) (x : Syntax) → P x → R i x)
  over h g i p = (tt, (λ g' j x w. h i x w))

  through : {P : Syntax → Type 0} → (g : Unit {0}) (i : ℕ) → Unit {0} → Unit {0} × ((g' : Unit {0}) (j : ℕ) (x : Syntax) → P x → P x)
  through g i p = (tt, (λ g' j x w. w))

  over_two :
      {P Q : Syntax → Type 0} {R : ℕ → Syntax → Syntax → Type 0} → ((i : ℕ) (x y : Syntax) → P x → Q y → R i x y)
      → (g : Unit {0}) (i : ℕ) → Unit {0}
      → Unit {0} × ((g1 : Unit {0}) (j : ℕ) (x : Syntax) → P x → Unit {0} × ((g2 : Unit {0}) (k : ℕ) (y : Syntax) → Q y → R i x y))
  over_two h g i p = (tt, (λ g1 j x v. (tt, (λ g2 k y w. h i x y v w))))

  no_argument : (i : ℕ) → Expression (part call FunctionName i blank blank blank)
  unfolding arity
  no_argument i = call_held i blank (λ clean h. absurd (omega arith))

  module _ (good-names : bad_names s.names ≡ false) where
    every : (x : Symbol) → Every still view (view x) (productions x) (readings x)
    unfolding productions readings made token_of own tightness operation operator_sort takes is_number is_truth code fields_of L.code
    every (the t) = tt
    every LocationPath = (over relative_held, (through, tt))
    every AbsoluteLocationPath = ((λ g i p. root_held i), (over (absolute_held '/'), (through, tt)))
    every RelativeLocationPath = (through, (over_two (chain_held '/'), (through, tt)))
    every Step = ((λ g i p. (tt, (λ g1 j x u. (tt, (λ g2 k y v. (tt, (λ g3 m z w. step_held i x y z u v w))))))), (through, tt))
    every AxisSpecifier = ((λ g i p. axis_good i), (through, tt))
    every NodeTest = (
      (λ g i p. name_good good-names i),
      (
        (λ g i p. type_good i),
        (
          (λ g i p. instruction_good instruction 'processing_instruction' i refl refl),
          ((λ g i p. instruction_good target 'processing_instruction' i refl refl), tt),
        ),
      ),
    )
    every Predicates = ((λ g i p. no_more), (over_two predicate_held, tt))
    every Predicate = (through, tt)
    every PredicateExpr = (through, tt)
    every AbbreviatedAbsoluteLocationPath = (over (absolute_held '//'), tt)
    every AbbreviatedRelativeLocationPath = (over_two (chain_held '//'), tt)
    every AbbreviatedStep = ((λ g i p. self_held i), ((λ g i p. parent_held i), tt))
    every AbbreviatedAxisSpecifier = ((λ g i p. attribute_good i), ((λ g i p. child_good), tt))
    every Expr = (through, tt)
    every PrimaryExpr = (
      (λ g i p. unheld variable VariableReference i blank blank refl),
      (over group_held, ((λ g i p. unheld string Literal i blank blank refl), ((λ g i p. number_held i), (through, tt)))),
    )
    every FunctionCall = ((λ g i p. no_argument i), (over (λ i x w. call_held i x (λ clean h. w clean)), tt))
    every Arguments = (over (λ i x w. argument_held i blank x w), (over_two (λ i x y v w. argument_held i x y w), tt))
    every Argument = (through, tt)
    every UnionExpr = (through, (over_two (λ i x y v w. unheld union '|' i x y refl), tt))
    every PathExpr = (
      through,
      (through, (over_two (λ i x y v w. unheld onward '/' i x y refl), (over_two (λ i x y v w. unheld onward '//' i x y refl), tt))),
    )
    every FilterExpr = (through, (over_two (λ i x y v w. unheld filter unknown i x y refl), tt))
    every OrExpr = (through, (over_two (λ i x y. truths_held 'or' i x y refl (λ u v. op_fits n TruthLink Or u v tt)), tt))
    every AndExpr = (through, (over_two (λ i x y. truths_held 'and' i x y refl (λ u v. op_fits n TruthLink And u v tt)), tt))
    every EqualityExpr = (
      through,
      (
        over_two (λ i x y. numbers_held '=' i x y refl refl (λ u v. op_fits n TruthLink Equal u v tt)),
        (over_two (λ i x y. numbers_held '!=' i x y refl refl (λ u v. op_fits n TruthLink Unequal u v tt)), tt),
      ),
    )
    every RelationalExpr = (
      through,
      (
        over_two (λ i x y. numbers_held '<' i x y refl refl (λ u v. op_fits n TruthLink Less u v tt)),
        (
          over_two (λ i x y. numbers_held '>' i x y refl refl (λ u v. op_fits n TruthLink Greater u v tt)),
          (
            over_two (λ i x y. numbers_held '<=' i x y refl refl (λ u v. op_fits n TruthLink LessEqual u v tt)),
            (over_two (λ i x y. numbers_held '>=' i x y refl refl (λ u v. op_fits n TruthLink GreaterEqual u v tt)), tt),
          ),
        ),
      ),
    )
    every AdditiveExpr = (
      through,
      (
        over_two (λ i x y. numbers_held '+' i x y refl refl (λ u v. op_fits n NumberLink Add u v tt)),
        (over_two (λ i x y. numbers_held '-' i x y refl refl (λ u v. op_fits n NumberLink Subtract u v tt)), tt),
      ),
    )
    every MultiplicativeExpr = (
      through,
      (
        over_two (λ i x y. numbers_held MultiplyOperator i x y refl refl (λ u v. op_fits n NumberLink Multiply u v tt)),
        (
          over_two (λ i x y. numbers_held 'div' i x y refl refl (λ u v. op_fits n NumberLink Divide u v tt)),
          (over_two (λ i x y. numbers_held 'mod' i x y refl refl (λ u v. op_fits n NumberLink Remainder u v tt)), tt),
        ),
      ),
    )
    every UnaryExpr = (through, (over negative_held, tt))

    -- a text that stands for a construct without faults is held as a tree that fits its sort
    sentence_held : (ts : List Token) (d : Sentence ts) → Expression (syntax_of ts)
    sentence_held ts d =
        let (x, w, e) =
        reads still view (λ t. refl) every d (λ g j xs. (x : Syntax) × Expression x × (xs ≡ x ∷ [])) tt 0 (tt, (λ g j x w. (x, w, refl))) in
        let same-one : x ∷ [] ≡ syntax_of ts ∷ [] = sym e ∙ the_tree ts d in
        let same-tree : x ≡ syntax_of ts = cc in
        subst Expression same-tree w

    -- a text without faults is held as a path
    pub text_held :
        (ts : List Token) (d : Sentence ts) → text_faults s (syntax_of ts) ≡ [] → Known l (values s (syntax_of ts))
        → Fits n PathLink (held s l none (syntax_of ts))
    unfolding text_faults as_path
    text_held ts d e k =
        let x : Syntax = syntax_of ts in
        as_path_lem n (sort s x) (alone x) (passed (path_taken (sort s x)) _ (front_none (as_path s x) (faults s x) e))
        (sentence_held ts d (record { faultless = rear_none (as_path s x) (faults s x) e; known = k }))

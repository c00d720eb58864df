-- Trees that a field of a row may link: tidy, made by document 01's rules, and with an op that the field takes. How such trees are made of
-- such trees: a node over two links, a step and a literal.
-- Assumes nothing.
use Prim.Native.Nat.{ℕ, ◌<◌}
use mathlib.Core.Path.{◌≡◌, refl, sym, subst, subst⁻¹, ap, ◌∙◌}
use mathlib.Core.Bool.{Bool, true, false, ◌&&◌, not, cond}
use lib.Dec.{T, leb, ltb, lt→ltb, eqb→eq}
use Rattle.meaning.specs.Lists.{up_to, some}
use Rattle.meaning.specs.Axis.{last_axis}
use Rattle.meaning.specs.declared.Op.{Op}
use Rattle.meaning.specs.declared.Op.TheVariants.{Literal, Step, Unknown}
use Rattle.meaning.specs.declared.Field.{Field}
use Rattle.meaning.specs.declared.Field.TheVariants.{AxisNumber, ExpressionLink, LiteralIndex, NumberLink, PathLink, PredicateOrNone, StepLink, StepOrNone, TestNumber, TruthLink, Unused}
use Rattle.meaning.specs.declared.Fields.{Fields}
use Rattle.meaning.specs.Rows.{code, op_of, fields_of, is_number, is_truth, is_path, is_step, is_predicate, is_literal, is_unknown, is_link, takes, may_miss, good_test, good_field}
use Rattle.meaning.specs.Tree.{Tree, none, node}
use Rattle.meaning.proofs.Bools.{and_i, or_i_l, or_i_r, not_false, is_false}
use Rattle.meaning.proofs.Ops.{op_code, every_op}
use Rattle.meaning.proofs.ReadBack.{Tidy}
use Rattle.meaning.proofs.Made.{Made, good_child, good_held, good_node}

-- a tree that may stand in a field, beside n literals
pub record Fits (n : ℕ) (f : Field) (a : Tree) : Type 0 where
  pub tidy : Tidy a
  pub made : Made n a
  pub taken : T (good_held n f a 0)
  pub kept : cond (is_link f) a none ≡ a

-- ---- fields

-- what takes an op is a link, and no field takes an unknown op
takes_link : (f : Field) (op : Op) → T (takes f op) → is_link f ≡ true
unfolding takes is_link
takes_link Unused op h = absurd h
takes_link LiteralIndex op h = absurd h
takes_link AxisNumber op h = absurd h
takes_link TestNumber op h = absurd h
takes_link NumberLink op h = refl
takes_link TruthLink op h = refl
takes_link ExpressionLink op h = refl
takes_link PathLink op h = refl
takes_link StepLink op h = refl
takes_link StepOrNone op h = refl
takes_link PredicateOrNone op h = refl

takes_no_unknown : (f : Field) → T (takes f Unknown) → ⊥
unfolding takes is_number is_truth is_path is_step is_predicate code
takes_no_unknown Unused h = h
takes_no_unknown LiteralIndex h = h
takes_no_unknown AxisNumber h = h
takes_no_unknown TestNumber h = h
takes_no_unknown NumberLink h = h
takes_no_unknown TruthLink h = h
takes_no_unknown ExpressionLink h = h
takes_no_unknown PathLink h = h
takes_no_unknown StepLink h = h
takes_no_unknown StepOrNone h = h
takes_no_unknown PredicateOrNone h = h

takes_known : (f : Field) (op : Op) → T (takes f op) → is_unknown op ≡ false
unfolding is_unknown op_of
takes_known f op h =
    is_false (is_unknown op)
    (λ u. takes_no_unknown f (subst (λ (o : Op). T (takes f o)) (sym (op_code op) ∙ ap op_of (eqb→eq (code op) 0 u)) h))

-- 0 stands where nothing does, however many literals there are
zero_held : (n : ℕ) (f : Field) → T (good_held 0 f none 0) → T (good_held n f none 0)
unfolding good_held is_link good_field
zero_held n Unused h = h
zero_held n LiteralIndex h = absurd h
zero_held n AxisNumber h = h
zero_held n TestNumber h = h
zero_held n NumberLink h = h
zero_held n TruthLink h = h
zero_held n ExpressionLink h = h
zero_held n PathLink h = h
zero_held n StepLink h = h
zero_held n StepOrNone h = h
zero_held n PredicateOrNone h = h

-- so 0 stands in a field of every op, if it does in that of each of the 26
every_zero :
    (n : ℕ) (side : Fields → Field) → some (λ k. not (good_held 0 (side (fields_of (op_of k))) none 0)) (up_to 26) ≡ false
    → (op : Op) → T (good_held n (side (fields_of op)) none 0)
every_zero n side h op =
    zero_held n (side (fields_of op))
    (not_false (good_held 0 (side (fields_of op)) none 0) (every_op (λ op. not (good_held 0 (side (fields_of op)) none 0)) h op))

third_zero : (n : ℕ) (op : Op) → T (good_held n (fields_of op).c none 0)
unfolding some up_to op_of fields_of good_held is_link good_field good_test good_child may_miss
third_zero n op = every_zero n (λ f. f.c) refl op

fourth_zero : (n : ℕ) (op : Op) → T (good_held n (fields_of op).d none 0)
unfolding some up_to op_of fields_of good_held is_link good_field good_test good_child may_miss
fourth_zero n op = every_zero n (λ f. f.d) refl op

-- ---- nodes

nought : (b : Bool) → ◌≡◌ {A = ℕ} (cond b 0 0) 0
nought true = refl
nought false = refl

-- a node fits a field that takes its op
taken_node :
    (n : ℕ) (f : Field) (op : Op) (a b : Tree) (c d : ℕ) → T (takes f op) → Tidy (node op a b c d) → T (good_node n op a b c d) → Made n a
    → Made n b → Fits n f (node op a b c d)
unfolding good_held good_child
taken_node n f op a b c d h tidy good ma mb = record {
  tidy = tidy;
  made = (takes_known f op h, good, ma, mb);
  taken = rw (takes_link f op h) h;
  kept = rw (takes_link f op h) refl;
}

module _ (n : ℕ) where
  -- a node over two links, without numbers of its own
  pub op_fits :
      (f : Field) (op : Op) (a b : Tree) → T (takes f op) → Fits n (fields_of op).a a → Fits n (fields_of op).b b → Fits n f (node op a b 0 0)
  unfolding good_node
  op_fits f op a b h fa fb =
      let A : Bool = good_held n (fields_of op).a a 0 in
      let B : Bool = good_held n (fields_of op).b b 0 in
      let C : Bool = good_held n (fields_of op).c none 0 in
      let D : Bool = good_held n (fields_of op).d none 0 in
      let good : T (A && B && C && D) =
      and_i (A && B && C) D (and_i (A && B) C (and_i A B fa.taken fb.taken) (third_zero n op)) (fourth_zero n op) in
      taken_node n f op a b 0 0 h
      (fa.kept, fb.kept, rw (nought (is_step op)) (nought (is_literal op)), nought (is_step op), fa.tidy, fb.tidy)
      (subst⁻¹ (λ (z : ℕ). T (good_held n (fields_of op).a a z && B && good_held n (fields_of op).c none z && D)) (nought (is_literal op)) good)
      fa.made fb.made

  -- a step behind the chain a, with predicates b, an axis and a test
  pub step_fits :
      (a b : Tree) (axis test : ℕ) → Fits n StepOrNone a → Fits n PredicateOrNone b → T (leb axis last_axis) → T (good_test test)
      → Fits n StepLink (node Step a b axis test)
  unfolding takes good_node good_held fields_of is_link is_literal is_step code good_field
  step_fits a b axis test fa fb h k =
      let A : Bool = good_child StepOrNone a in
      let B : Bool = good_child PredicateOrNone b in
      taken_node n StepLink Step a b axis test tt (refl, refl, refl, refl, fa.tidy, fb.tidy)
      (and_i (A && B && leb axis last_axis) (good_test test) (and_i (A && B) (leb axis last_axis) (and_i A B fa.taken fb.taken) h) k)
      fa.made fb.made

  -- a literal's index is below the number of literals
  pub literal_fits : (i : ℕ) → i < n → Fits n NumberLink (node Literal none none i 0)
  unfolding takes is_number good_node good_held fields_of is_link is_literal is_step code good_field
  literal_fits i h =
      taken_node n NumberLink Literal none none i 0 tt (refl, refl, refl, refl, tt, tt)
      (and_i (ltb i n && true && true) true (and_i (ltb i n && true) true (and_i (ltb i n) true (lt→ltb i n h) tt) tt) tt) tt tt

  -- ---- no tree

  pub none_unused : Fits n Unused none
  unfolding good_held is_link good_field
  none_unused = record { tidy = tt; made = tt; taken = tt; kept = refl }

  pub no_step : Fits n StepOrNone none
  unfolding good_held is_link good_child may_miss
  no_step = record { tidy = tt; made = tt; taken = tt; kept = refl }

  pub no_predicate : Fits n PredicateOrNone none
  unfolding good_held is_link good_child may_miss
  no_predicate = record { tidy = tt; made = tt; taken = tt; kept = refl }

  -- ---- fields that take more

  pub some_steps : (a : Tree) → Fits n StepLink a → Fits n StepOrNone a
  unfolding good_held is_link good_child may_miss takes
  some_steps none h = absurd h.taken
  some_steps (node op a b c d) h = record { tidy = h.tidy; made = h.made; taken = h.taken; kept = refl }

  pub number_expression : (a : Tree) → Fits n NumberLink a → Fits n ExpressionLink a
  unfolding good_held is_link good_child may_miss takes
  number_expression none h = absurd h.taken
  number_expression (node op a b c d) h =
      record { tidy = h.tidy; made = h.made; taken = or_i_l (is_number op) (is_truth op) h.taken; kept = refl }

  pub truth_expression : (a : Tree) → Fits n TruthLink a → Fits n ExpressionLink a
  unfolding good_held is_link good_child may_miss takes
  truth_expression none h = absurd h.taken
  truth_expression (node op a b c d) h =
      record { tidy = h.tidy; made = h.made; taken = or_i_r (is_number op) (is_truth op) h.taken; kept = refl }

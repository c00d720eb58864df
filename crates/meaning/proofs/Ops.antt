-- Laws of the table of ops. A fact of every op is a test that is run on the 26 of them: an op is what its number decodes to.
-- Assumes nothing.
use Prim.Native.Nat.{ℕ, ◌<◌}
use mathlib.Core.Path.{◌≡◌, refl, sym, ap, ◌∙◌}
use mathlib.Core.Logic.{inl, inr}
use mathlib.Core.Bool.{Bool, true, false, ◌&&◌, not, cond, true≢false}
use mathlib.Core.List.{List, []}
use lib.Dec.{T, eqb, eqb→eq}
use native.Mathlib.Omega.{arith}
use borrow.Author.Tests.{eqb-true}
use Rattle.meaning.specs.Lists.{up_to, some}
use Rattle.meaning.specs.Rows.{op_of, code, fields_of, is_literal, is_step, is_link, is_unknown, good_field, good_link, good_test}
use Rattle.meaning.specs.declared.Op.{Op}
use Rattle.meaning.specs.declared.Op.TheVariants.{Absolute, Add, And, Count, Divide, Equal, Exists, Greater, GreaterEqual, Last, Less, LessEqual, Literal, Multiply, Negate, Negation, Or, Position, Predicate, Relative, Remainder, Step, Subtract, TruthOf, Unequal, Unknown}
use Rattle.meaning.specs.declared.Field.{Field}
use Rattle.meaning.specs.declared.Field.TheVariants.{AxisNumber, ExpressionLink, LiteralIndex, NumberLink, PathLink, PredicateOrNone, StepLink, StepOrNone, TestNumber, TruthLink, Unused}
use Rattle.meaning.proofs.Bools.{lt_or_ge, not_false}
use Rattle.meaning.proofs.Lists.{below_none}
use Rattle.meaning.proofs.Decoding.{op_past}

-- an op's number decodes to the op
pub op_code : (op : Op) → op_of (code op) ≡ op
unfolding op_of code
op_code Literal = refl
op_code Position = refl
op_code Last = refl
op_code Add = refl
op_code Subtract = refl
op_code Multiply = refl
op_code Divide = refl
op_code Remainder = refl
op_code Negate = refl
op_code Equal = refl
op_code Unequal = refl
op_code Less = refl
op_code LessEqual = refl
op_code Greater = refl
op_code GreaterEqual = refl
op_code And = refl
op_code Or = refl
op_code Negation = refl
op_code TruthOf = refl
op_code Exists = refl
op_code Count = refl
op_code Relative = refl
op_code Absolute = refl
op_code Step = refl
op_code Predicate = refl
op_code Unknown = refl

code_small : (op : Op) → code op < 26
code_small op = elim (lt_or_ge (code op) 26) [
  | inl l ↦ l
  | inr l ↦
      let e : code op ≡ code Unknown = ap code (sym (op_code op) ∙ op_past (code op) l) in
      let z : code Unknown ≡ 0 = unfold code in refl in
      omega arith
]

-- a test that fails at each op, as computed, fails at any
pub every_op : (f : Op → Bool) → some (λ n. f (op_of n)) (up_to 26) ≡ false → (op : Op) → f op ≡ false
every_op f h op = ap f (sym (op_code op)) ∙ below_none (λ n. f (op_of n)) 26 h (code op) (code_small op)

-- a number that decodes to an op is the number of that op
pub code_op : (n : ℕ) → is_unknown (op_of n) ≡ false → code (op_of n) ≡ n
unfolding some up_to op_of code is_unknown
code_op n h = elim (lt_or_ge n 26) [
  | inl l ↦ eqb→eq (code (op_of n)) n (not_false (eqb (code (op_of n)) n) (below_none (λ n. not (eqb (code (op_of n)) n)) 26 refl n l))
  | inr l ↦ absurd (true≢false (ap is_unknown (sym (op_past n l)) ∙ h))
]

-- the op of a step
pub step_is : (op : Op) → is_step op ≡ true → op ≡ Step
unfolding op_of is_step
step_is op h = sym (op_code op) ∙ ap op_of (eqb-true (code op) 24 h)

implied : (a b : Bool) → (a && b) ≡ false → a ≡ true → b ≡ false
implied true b h e = h
implied false b h e = absurd (true≢false (sym e))

-- a literal links nothing and is no step
pub literal_links_nothing : (op : Op) → is_literal op ≡ true → is_link (fields_of op).a ≡ false
unfolding some up_to op_of code is_literal fields_of is_link
literal_links_nothing op = implied (is_literal op) (is_link (fields_of op).a) (every_op (λ op. is_literal op && is_link (fields_of op).a) refl op)

pub literal_is_no_step : (op : Op) → is_literal op ≡ true → is_step op ≡ false
unfolding some up_to op_of code is_literal is_step
literal_is_no_step op = implied (is_literal op) (is_step op) (every_op (λ op. is_literal op && is_step op) refl op)

-- the last two fields link nothing
pub third_links_nothing : (op : Op) → is_link (fields_of op).c ≡ false
unfolding some up_to op_of fields_of is_link
third_links_nothing = every_op (λ op. is_link (fields_of op).c) refl

pub fourth_links_nothing : (op : Op) → is_link (fields_of op).d ≡ false
unfolding some up_to op_of fields_of is_link
fourth_links_nothing = every_op (λ op. is_link (fields_of op).d) refl

-- ---- fields

-- a field that is no link does not look at the path
pub field_by_kind : (p : List ℕ) (literals r : ℕ) (f : Field) (v : ℕ) → good_field p literals r f v ≡ cond (is_link f) (good_link p r f v) (good_field [] literals 0 f v)
unfolding good_field is_link
field_by_kind p literals r Unused v = refl
field_by_kind p literals r LiteralIndex v = refl
field_by_kind p literals r AxisNumber v = refl
field_by_kind p literals r TestNumber v = refl
field_by_kind p literals r NumberLink v = refl
field_by_kind p literals r TruthLink v = refl
field_by_kind p literals r ExpressionLink v = refl
field_by_kind p literals r PathLink v = refl
field_by_kind p literals r StepLink v = refl
field_by_kind p literals r StepOrNone v = refl
field_by_kind p literals r PredicateOrNone v = refl

-- may a field of this kind hold a number of its own? Then 1 is allowed there, as an axis, a test or the index of two literals
unfoldable plain : Field → Bool
plain f = good_field [] 2 0 f 1

plain_or_zero : (p : List ℕ) (literals r : ℕ) (f : Field) (v : ℕ) → is_link f ≡ false → plain f ≡ false → T (good_field p literals r f v) → v ≡ 0
unfolding good_field is_link plain
plain_or_zero p literals r Unused v l h g = eqb→eq v 0 g
plain_or_zero p literals r LiteralIndex v l h g = absurd (true≢false h)
plain_or_zero p literals r AxisNumber v l h g = absurd (true≢false h)
plain_or_zero p literals r TestNumber v l h g = absurd (true≢false (unfold good_test in h))
plain_or_zero p literals r NumberLink v l h g = absurd (true≢false l)
plain_or_zero p literals r TruthLink v l h g = absurd (true≢false l)
plain_or_zero p literals r ExpressionLink v l h g = absurd (true≢false l)
plain_or_zero p literals r PathLink v l h g = absurd (true≢false l)
plain_or_zero p literals r StepLink v l h g = absurd (true≢false l)
plain_or_zero p literals r StepOrNone v l h g = absurd (true≢false l)
plain_or_zero p literals r PredicateOrNone v l h g = absurd (true≢false l)

module _ (p : List ℕ) (literals r : ℕ) (op : Op) (v : ℕ) where
  -- what an op does not use is 0
  pub first_unused : is_literal op ≡ false → is_link (fields_of op).a ≡ false → T (good_field p literals r (fields_of op).a v) → v ≡ 0
  unfolding some up_to op_of code is_literal fields_of plain good_field good_test good_link
  first_unused e l = plain_or_zero p literals r (fields_of op).a v l
      (implied (not (is_literal op)) (plain (fields_of op).a) (every_op (λ op. not (is_literal op) && plain (fields_of op).a) refl op) (ap not e))

  pub second_unused : is_link (fields_of op).b ≡ false → T (good_field p literals r (fields_of op).b v) → v ≡ 0
  unfolding some up_to op_of fields_of plain good_field good_test good_link
  second_unused l = plain_or_zero p literals r (fields_of op).b v l (every_op (λ op. plain (fields_of op).b) refl op)

  pub third_unused : is_step op ≡ false → T (good_field p literals r (fields_of op).c v) → v ≡ 0
  unfolding some up_to op_of code is_step fields_of plain good_field good_test good_link
  third_unused e = plain_or_zero p literals r (fields_of op).c v (third_links_nothing op)
      (implied (not (is_step op)) (plain (fields_of op).c) (every_op (λ op. not (is_step op) && plain (fields_of op).c) refl op) (ap not e))

  pub fourth_unused : is_step op ≡ false → T (good_field p literals r (fields_of op).d v) → v ≡ 0
  unfolding some up_to op_of code is_step fields_of plain good_field good_test good_link
  fourth_unused e = plain_or_zero p literals r (fields_of op).d v (fourth_links_nothing op)
      (implied (not (is_step op)) (plain (fields_of op).d) (every_op (λ op. not (is_step op) && plain (fields_of op).d) refl op) (ap not e))

-- Laws of decoding: which ops, axes and tests the numbers of rows stand for. A fact of every number is a test that is run on
-- those that decode, and the rest above them.
-- Assumes nothing.
use Prim.Native.Nat.{ℕ, zero, suc, ◌-◌, ◌%◌, ◌<◌, ◌≤◌, zero-le, suc-le-suc}
use mathlib.Core.Path.{◌≡◌, refl, sym, ap, ◌∙◌}
use mathlib.Core.Logic.{inl, inr}
use mathlib.Core.Bool.{Bool, true, false, ◌||◌, ◌&&◌, cond, and-false, true≢false}
use lib.ListN.{get_or-eq_default}
use lib.Dec.{leb, ltb, eqb}
use lib.Ieee.{unlike}
use native.Mathlib.Omega.{arith}
use borrow.Author.Tests.{le-leb, lt-leb, ne_eqb, eqb-true, lt-ltb}
use Rattle.meaning.specs.Lists.{up_to, some}
use Rattle.meaning.specs.Axis.{axis_of, last_axis, is_reverse, principal, test_of}
use Rattle.meaning.specs.declared.Axis.TheVariants.{Itself}
use Rattle.meaning.specs.declared.Test.TheVariants.{Named}
use Rattle.meaning.specs.declared.Op.{Op}
use Rattle.meaning.specs.declared.Op.TheVariants.{Unknown}
use Rattle.meaning.specs.Axis as A
use Rattle.meaning.specs.Rows.{code, op_of, fields_of, is_link, is_number, is_truth, is_path, is_step, is_predicate, is_unknown}
use Rattle.meaning.specs.Rows as R
use Rattle.meaning.proofs.Bools.{lt_or_ge}
use Rattle.meaning.proofs.Lists.{below_none}

-- a number above 25 is no op, and one above 11 reads as axis 0
pub op_past : (n : ℕ) → 25 < n → op_of n ≡ Unknown
unfolding op_of
op_past n h = get_or-eq_default R.ops Unknown h

pub axis_past : (n : ℕ) → 11 < n → axis_of n ≡ Itself
unfolding axis_of
axis_past n h = get_or-eq_default A.axes Itself h

-- a number from k on that is not k is above it
pub past : (k n : ℕ) → k ≤ n → (n ≡ k → ⊥) → k < n
past k n h f = omega arith

-- n is none of 1 to k, as a match leaves it: from 1 on it is above them
abbrev pub NoneOf : ℕ → ℕ → Type 0
NoneOf zero n = Unit {0}
NoneOf (suc k) n = NoneOf k n × (n ≡ suc k → ⊥)

pub none_past : (k n : ℕ) → 1 ≤ n → NoneOf k n → k < n
none_past zero n h f = h
none_past (suc k) n h f = past (suc k) n (none_past k n h f.0) f.1

-- an axis that is none of 1 to 11 reads as self
pub axis_rest : (n : ℕ) → NoneOf 11 n → axis_of n ≡ Itself
axis_rest zero f = unfold axis_of in refl
axis_rest (suc n) f = axis_past (suc n) (none_past 11 (suc n) (suc-le-suc zero-le) f)

-- a test that is none of 0 to 4 asks for a name
pub test_rest : (n : ℕ) → (n ≡ 0 → ⊥) → (n ≡ 1 → ⊥) → (n ≡ 2 → ⊥) → (n ≡ 3 → ⊥) → (n ≡ 4 → ⊥) → test_of n ≡ Named (n - 16)
unfolding test_of
test_rest n n0 n1 n2 n3 n4 = rw (lt-leb n 4 (past 4 n (past 3 n (past 2 n (past 1 n (past 0 n zero-le n0) n1) n2) n3) n4))

alike : (a b : Bool) → unlike a b ≡ false → a ≡ b
alike true true h = refl
alike true false h = absurd (true≢false h)
alike false true h = absurd (true≢false h)
alike false false h = refl

-- two tests that agree below n, as computed, and from n on, agree
pub agree : (f g : ℕ → Bool) (n : ℕ) → some (λ k. unlike (f k) (g k)) (up_to n) ≡ false → ((k : ℕ) → n ≤ k → f k ≡ g k) → (k : ℕ) → f k ≡ g k
agree f g n h past k = elim (lt_or_ge k n) [
  | inl l ↦ alike (f k) (g k) (below_none (λ k. unlike (f k) (g k)) n h k l)
  | inr l ↦ past k l
]

-- the number of a decoded op
pub code_of : (n : ℕ) → n ≤ 25 → code (op_of n) ≡ n
unfolding code op_of some up_to
code_of n h = eqb-true (code (op_of n)) n (alike (eqb (code (op_of n)) n) true
    (below_none (λ k. unlike (eqb (code (op_of k)) k) true) 26 refl n (omega arith)))

-- an op is told by its number
pub op_is : (k n : ℕ) → 0 < k → k ≤ 25 → eqb (code (op_of n)) k ≡ eqb n k
op_is k n p q = elim (lt_or_ge 25 n) [
  | inr l ↦ rw (code_of n l)
  | inl l ↦ ap (λ (o : Op). eqb (code o) k) (op_past n l) ∙ ne_eqb (code Unknown) k (λ e. omega (arith, unknown_code)) ∙ sym (ne_eqb n k (λ e. omega arith))
]
  where
    unknown_code : code Unknown ≡ 0
    unknown_code = unfold code in refl

-- the axes that run against document order
pub reverse_axes : (n : ℕ) → is_reverse (axis_of n) ≡ (eqb (n % 2) 0 && (ltb 0 n && leb n 10))
unfolding axis_of is_reverse some up_to
reverse_axes = agree (λ n. is_reverse (axis_of n)) (λ n. eqb (n % 2) 0 && (ltb 0 n && leb n 10)) 12 refl
    (λ n h. rw (axis_past n h, lt-leb n 10 (omega arith), and-false (ltb 0 n), and-false (eqb (n % 2) 0)))

-- `*` and names match attributes on axis 11, and elements on every other
pub principal_kind : (n : ℕ) → principal (axis_of n) ≡ cond (eqb n last_axis) 5 1
unfolding axis_of principal some up_to
principal_kind n = eqb-true (principal (axis_of n)) (cond (eqb n last_axis) 5 1) (agree (λ n. eqb (principal (axis_of n)) (cond (eqb n last_axis) 5 1)) (λ n. true) 12 refl
    (λ n h. rw (axis_past n h, ne_eqb n last_axis (λ e. omega arith))) n)

-- ---- the sorts of rows, by op

-- What an op takes: its value depends on nothing else, and is a truth unless the op is a number. Both by the clauses of the
-- table of ops.
-- Assumes nothing.
use Prim.Native.Nat.{ℕ, ◌≤◌}
use mathlib.Core.Path.{◌≡◌, refl, sym, ap, ◌∙◌}
use mathlib.Core.Bool.{Bool, true, false, ◌&&◌, ◌||◌, not, true≢false}
use mathlib.Core.List.{List}
use lib.Dec.{T, leb, eqb, leb→le, eqb→eq}
use lib.Ieee.{Float}
use native.Mathlib.Omega.{arith}
use borrow.Author.Tests.{ne_eqb}
use Rattle.meaning.specs.Rows.{code, op_of, is_number}
use Rattle.meaning.specs.declared.Op.{Op}
use Rattle.meaning.specs.declared.Op.TheVariants.{Absolute, Add, And, Count, Divide, Equal, Exists, Greater, GreaterEqual, Last, Less, LessEqual, Literal, Multiply, Negate, Negation, Or, Position, Predicate, Relative, Remainder, Step, Subtract, TruthOf, Unequal, Unknown}
use Rattle.meaning.specs.Meaning.{applied, holds, truth_of}
use Rattle.meaning.specs.Turning.{contextual, over_path}
use Rattle.meaning.specs.declared.Value.{Value}
use Rattle.meaning.specs.declared.Context.{Context}
use Rattle.meaning.proofs.Bools.{and_l, and_r, or_e, not_e, is_true, is_false, truly}
use Rattle.meaning.proofs.Ops.{op_code}

-- ops 4 to 19 take a first operand
unfoldable pub takes_first : Op → Bool
takes_first op = leb 4 (code op) && leb (code op) 19

-- of these all but 9, 18 and 19 take a second
unfoldable pub takes_second : Op → Bool
takes_second op = takes_first op && not (eqb (code op) 9 || leb 18 (code op))

-- an and is decided by a first operand that does not hold, an or by one that holds
unfoldable pub decides : Op → Value → Bool
decides op u = (eqb (code op) 16 && not (truth_of u)) || (eqb (code op) 17 && truth_of u)

-- an op that takes a second operand takes a first
pub second_first : (op : Op) → takes_second op ≡ true → takes_first op ≡ true
unfolding takes_second
second_first op h = is_true (takes_first op) (and_l (takes_first op) (not (eqb (code op) 9 || leb 18 (code op))) (truly h))

-- an op that takes operands is over no path
pub operands_no_path : (op : Op) → takes_first op ≡ true → over_path op ≡ false
unfolding takes_first over_path
operands_no_path op h =
    let l : code op ≤ 19 = leb→le (code op) 19 (and_r (leb 4 (code op)) (leb (code op) 19) (truly h)) in
    rw (ne_eqb (code op) 20 (λ e. omega arith), ne_eqb (code op) 21 (λ e. omega arith))

module _ (literals : List Float) (i : ℕ) (u v u' v' : Value) (n n' : ℕ) (x x' : Context) where
  -- a value depends only on the operands, the path's count and the context that its op takes
  pub applied_agrees : (op : Op)
      → (takes_first op ≡ true → u ≡ u')
      → (takes_second op ≡ true → v ≡ v')
      → (over_path op ≡ true → n ≡ n')
      → (contextual op ≡ true → x ≡ x')
      → applied literals op i u v n x ≡ applied literals op i u' v' n' x'
  unfolding applied takes_first takes_second over_path contextual code
  applied_agrees Literal f s p c = refl
  applied_agrees Position f s p c = rw (c refl)
  applied_agrees Last f s p c = rw (c refl)
  applied_agrees Add f s p c = rw (f refl, s refl)
  applied_agrees Subtract f s p c = rw (f refl, s refl)
  applied_agrees Multiply f s p c = rw (f refl, s refl)
  applied_agrees Divide f s p c = rw (f refl, s refl)
  applied_agrees Remainder f s p c = rw (f refl, s refl)
  applied_agrees Negate f s p c = rw (f refl)
  applied_agrees Equal f s p c = rw (f refl, s refl)
  applied_agrees Unequal f s p c = rw (f refl, s refl)
  applied_agrees Less f s p c = rw (f refl, s refl)
  applied_agrees LessEqual f s p c = rw (f refl, s refl)
  applied_agrees Greater f s p c = rw (f refl, s refl)
  applied_agrees GreaterEqual f s p c = rw (f refl, s refl)
  applied_agrees And f s p c = rw (f refl, s refl)
  applied_agrees Or f s p c = rw (f refl, s refl)
  applied_agrees Negation f s p c = rw (f refl)
  applied_agrees TruthOf f s p c = rw (f refl)
  applied_agrees Exists f s p c = rw (p refl)
  applied_agrees Count f s p c = rw (p refl)
  applied_agrees Relative f s p c = refl
  applied_agrees Absolute f s p c = refl
  applied_agrees Step f s p c = refl
  applied_agrees Predicate f s p c = refl
  applied_agrees Unknown f s p c = refl

-- an op is told by its number
named : (op : Op) (k : ℕ) → T (eqb (code op) k) → op ≡ op_of k
named op k h = sym (op_code op) ∙ ap op_of (eqb→eq (code op) k h)

module _ (literals : List Float) (i : ℕ) (u v w : Value) (n : ℕ) (x : Context) where
  -- what the first operand decides does not depend on the second
  pub decided : (op : Op) → decides op u ≡ true → applied literals op i u v n x ≡ applied literals op i u w n x
  unfolding decides applied op_of
  decided op h = or_e (eqb (code op) 16 && not (truth_of u)) (eqb (code op) 17 && truth_of u) (truly h)
      (λ k. rw (named op 16 (and_l (eqb (code op) 16) (not (truth_of u)) k), is_false (truth_of u) (not_e (truth_of u) (and_r (eqb (code op) 16) (not (truth_of u)) k))))
      (λ k. rw (named op 17 (and_l (eqb (code op) 17) (truth_of u) k), is_true (truth_of u) (and_r (eqb (code op) 17) (truth_of u) k)))

module _ (literals : List Float) (i : ℕ) (u v : Value) (n : ℕ) (x : Context) (p : Float) where
  -- a value of an op that is not a number is a truth, whatever the position
  pub applied_truth : (op : Op) → is_number op ≡ false → holds (applied literals op i u v n x) p ≡ truth_of (applied literals op i u v n x)
  unfolding applied is_number code
  applied_truth Literal h = absurd (true≢false h)
  applied_truth Position h = absurd (true≢false h)
  applied_truth Last h = absurd (true≢false h)
  applied_truth Add h = absurd (true≢false h)
  applied_truth Subtract h = absurd (true≢false h)
  applied_truth Multiply h = absurd (true≢false h)
  applied_truth Divide h = absurd (true≢false h)
  applied_truth Remainder h = absurd (true≢false h)
  applied_truth Negate h = absurd (true≢false h)
  applied_truth Equal h = refl
  applied_truth Unequal h = refl
  applied_truth Less h = refl
  applied_truth LessEqual h = refl
  applied_truth Greater h = refl
  applied_truth GreaterEqual h = refl
  applied_truth And h = refl
  applied_truth Or h = refl
  applied_truth Negation h = refl
  applied_truth TruthOf h = refl
  applied_truth Exists h = refl
  applied_truth Count h = absurd (true≢false h)
  applied_truth Relative h = refl
  applied_truth Absolute h = refl
  applied_truth Step h = refl
  applied_truth Predicate h = refl
  applied_truth Unknown h = refl

-- What is known of a construct without faults.
-- Assumes nothing.
use Prim.Native.Nat.{ℕ}
use mathlib.Core.Path.{◌≡◌, refl, subst}
use mathlib.Core.Bool.{Bool, true, false, cond}
use mathlib.Core.List.{List, [], ◌∷◌, ◌++◌}
use native.Mathlib.Omega.{arith}
use lib.Dec.{leb}
use Rattle.text.specs.declared.Sort.{Sort}
use Rattle.text.specs.declared.Sort.TheVariants.{Truth}
use Rattle.text.specs.Grammar.{Token, FunctionName}
use Rattle.text.specs.Syntax.{Kind, call, binary, Syntax, blank, part, begin}
use Rattle.text.specs.Growing.{tightness}
use Rattle.text.specs.Limited.{Source, word_of, function_of, result_of, is_held_call, call_sort, argument_faults, sort, fault, as_number, number_taken, own, faults}

-- where nothing is in two lists, nothing is in either
no_front : {A : Type 0} (xs ys : List A) → xs ++ ys ≡ [] → xs ≡ []
no_front [] ys e = refl
no_front (x ∷ xs) ys e = absurd (let z : ◌≡◌ {A = ℕ} 0 1 = cc in omega arith)

pub no_back : {A : Type 0} (xs ys : List A) → xs ++ ys ≡ [] → ys ≡ []
no_back [] ys e = e
no_back (x ∷ xs) ys e = absurd (let z : ◌≡◌ {A = ℕ} 0 1 = cc in omega arith)

-- what is not held has a fault, so this never comes
pub unheld : {A B : Type 0} {x : B} {xs : List B} → x ∷ xs ≡ [] → A
unheld e = absurd (let z : ◌≡◌ {A = ℕ} 0 1 = cc in omega arith)

module _ (s : Source) where
  -- a construct's own faults and those of its parts
  module _ (k : Kind) (t : Token) (i : ℕ) (a b c : Syntax) (e : faults s (part k t i a b c) ≡ []) where
    pub own_none : own s k t i a c ≡ []
    unfolding faults
    own_none = no_front (own s k t i a c) (faults s a ++ (faults s b ++ faults s c)) e

    pub first_none : faults s a ≡ []
    unfolding faults
    first_none = no_front (faults s a) (faults s b ++ faults s c) (no_back (own s k t i a c) (faults s a ++ (faults s b ++ faults s c)) e)

    pub third_none : faults s c ≡ []
    unfolding faults
    third_none =
        no_back (faults s b) (faults s c)
        (no_back (faults s a) (faults s b ++ faults s c) (no_back (own s k t i a c) (faults s a ++ (faults s b ++ faults s c)) e))

  -- a truth is no operand of a sum or a product
  pub no_truth :
      {A : Type 0} (tok : Token) → leb 3 (tightness tok) ≡ true → (i : ℕ) (x y : Syntax) → own s binary tok i x y ≡ [] → sort s x ≡ Truth → A
  unfolding own as_number number_taken
  no_truth {A} tok h i x y e u =
      unheld (subst (λ (v : Sort). cond (number_taken v) [] (fault s 26 (begin x)) ≡ []) u
      (no_front (as_number s x) (as_number s y) (rw h at e)))

  -- a call without faults is held
  pub held_call : (i : ℕ) (c : Syntax) → own s call FunctionName i blank c ≡ [] → is_held_call s i c ≡ true
  unfolding own
  held_call i c e = by (is_held_call s i c) e
    where
      by : (b : Bool) → cond b (argument_faults s (function_of (word_of s i)) c) (fault s 26 i) ≡ [] → b ≡ true
      by true e = refl
      by false e = unheld e

  -- and has its function's sort
  pub call_sort_lem :
      (i : ℕ) (c : Syntax) → is_held_call s i c ≡ true → sort s (part call FunctionName i blank blank c) ≡ result_of (function_of (word_of s i))
  unfolding sort call_sort
  call_sort_lem i c e = rw e

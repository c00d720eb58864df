-- The literals of a text: equal values share one, numbered by first use. Every value is found among the literals that are made of the values,
-- if these are numbers, and good values make good literals.
-- Assumes nothing.
use Prim.Native.Nat.{ℕ, zero, suc, ◌+◌, ◌<◌}
use mathlib.Core.Path.{◌≡◌, refl, sym, subst, subst⁻¹, ap, ◌∙◌}
use mathlib.Core.Bool.{Bool, true, false, not, cond}
use mathlib.Core.List.{List, [], ◌∷◌, ◌++◌, append_assoc, append-nil}
use lib.ListN.{length, get_or, length-append}
use lib.Seq.{get_or-append-add}
use lib.Dec.{ltb, leb}
use lib.Ieee.{Float, nan, is_nan, to_bits, binary64}
use lib.Ieee as Ieee
use native.Mathlib.Omega.{arith}
use borrow.Author.Tests.{ltb-true}
use Rattle.meaning.specs.Rows.{bad_literal}
use Rattle.meaning.proofs.Bools.{or_none_l}
use Rattle.meaning.proofs.Numbers.{equals_itself}
use Rattle.text.specs.Reading.{index_of, with, distinct}

-- each literal is finite and not negative, as document 01 asks
abbrev pub GoodEach : List Float → Type 0
GoodEach literals = (i : ℕ) → i < length literals → bad_literal (get_or literals i nan) ≡ false

-- something holds of each value
abbrev pub Each : (Float → Type 0) → List Float → Type 0
Each P [] = Unit {0}
Each P (v ∷ vs) = P v × Each P vs

module _ (P : Float → Type 0) where
  pub each_front : (xs ys : List Float) → Each P (xs ++ ys) → Each P xs
  each_front [] ys h = tt
  each_front (x ∷ xs) ys h = (h.0, each_front xs ys h.1)

  pub each_rear : (xs ys : List Float) → Each P (xs ++ ys) → Each P ys
  each_rear [] ys h = h
  each_rear (x ∷ xs) ys h = each_rear xs ys h.1

  pub each_both : (xs ys : List Float) → Each P xs → Each P ys → Each P (xs ++ ys)
  each_both [] ys h k = k
  each_both (x ∷ xs) ys h k = (h.0, each_both xs ys h.1 k)

-- every value is one of the literals
abbrev pub Known : List Float → List Float → Type 0
Known l vs = Each (λ v. index_of l v < length l) vs

-- ---- every value is one of the literals that are made of the values

-- a value that is found at the front of a list is found in it
found_front : (xs ys : List Float) (v : Float) → index_of xs v < length xs → index_of (xs ++ ys) v < length (xs ++ ys)
unfolding index_of
found_front [] ys v h = absurd (omega arith)
found_front (x ∷ xs) ys v h = decide (Ieee.eq x v) h (found_front xs ys v)
  where
    decide :
        (b : Bool) → cond b 0 (suc (index_of xs v)) < suc (length xs) → (index_of xs v < length xs → index_of (xs ++ ys) v < length (xs ++ ys))
        → cond b 0 (suc (index_of (xs ++ ys) v)) < suc (length (xs ++ ys))
    decide true h r = omega arith
    decide false h r = omega (arith, r (omega arith))

-- a value that equals itself is found where it stands
found_there : (xs : List Float) (v : Float) → Ieee.eq v v ≡ true → index_of (xs ++ (v ∷ [])) v < length (xs ++ (v ∷ []))
unfolding index_of
found_there [] v e = rw e (omega arith)
found_there (x ∷ xs) v e = decide (Ieee.eq x v) (found_there xs v e)
  where
    decide :
        (b : Bool) → index_of (xs ++ (v ∷ [])) v < length (xs ++ (v ∷ []))
        → cond b 0 (suc (index_of (xs ++ (v ∷ [])) v)) < suc (length (xs ++ (v ∷ [])))
    decide true h = omega arith
    decide false h = omega arith

-- literals are only added
only_added : (seen vs : List Float) → (more : List Float) × (distinct seen vs ≡ seen ++ more)
unfolding distinct with
only_added seen [] = ([], sym (append-nil seen))
only_added seen (v ∷ vs) = decide (ltb (index_of seen v) (length seen)) (only_added (with seen v) vs)
  where
    decide :
        (b : Bool) → (more : List Float) × (distinct (cond b seen (seen ++ (v ∷ []))) vs ≡ cond b seen (seen ++ (v ∷ [])) ++ more)
        → (more : List Float) × (distinct (cond b seen (seen ++ (v ∷ []))) vs ≡ seen ++ more)
    decide true r = r
    decide false r = (v ∷ r.0, r.1 ∙ append_assoc seen (v ∷ []) r.0)

-- a good literal is a number, and so equals itself
good_equals : (v : Float) → bad_literal v ≡ false → Ieee.eq v v ≡ true
unfolding bad_literal
good_equals v h = equals_itself v ∙ ap not (or_none_l (is_nan v) (leb 0x7FF0000000000000 (to_bits binary64 v)) h)

-- a value is found where it was added, or before
found_first :
    (seen vs : List Float) (v : Float) → GoodEach (distinct seen (v ∷ vs)) → index_of (distinct seen (v ∷ vs)) v < length (distinct seen (v ∷ vs))
unfolding distinct with
found_first seen vs v good = decide (ltb (index_of seen v) (length seen)) refl good
  where
    decide :
        (b : Bool) → ltb (index_of seen v) (length seen) ≡ b → GoodEach (distinct (cond b seen (seen ++ (v ∷ []))) vs)
        → index_of (distinct (cond b seen (seen ++ (v ∷ []))) vs) v < length (distinct (cond b seen (seen ++ (v ∷ []))) vs)
    decide true e g =
        let (more, q) = only_added seen vs in
        subst⁻¹ (λ (l : List Float). index_of l v < length l) q (found_front seen more v (ltb-true (index_of seen v) (length seen) e))
    decide false e g =
        let (more, q) = only_added (seen ++ (v ∷ [])) vs in
        let all : distinct (seen ++ (v ∷ [])) vs ≡ seen ++ (v ∷ more) = q ∙ append_assoc seen (v ∷ []) more in
        let there : length seen + 0 < length (seen ++ (v ∷ more)) = simp length-append (omega arith) in
        let itself : bad_literal v ≡ false =
        sym (ap bad_literal (get_or-append-add seen (v ∷ more) 0 nan)) ∙ subst GoodEach all g (length seen + 0) there in
        subst⁻¹ (λ (l : List Float). index_of l v < length l) q
        (found_front (seen ++ (v ∷ [])) more v (found_there seen v (good_equals v itself)))

-- every value of a list is one of the literals that are made of it, if these are good
pub all_known : (seen vs : List Float) → GoodEach (distinct seen vs) → Known (distinct seen vs) vs
unfolding distinct
all_known seen [] good = tt
all_known seen (v ∷ vs) good = (found_first seen vs v good, all_known (with seen v) vs good)

-- ---- good values make good literals

each_distinct : (P : Float → Type 0) (seen vs : List Float) → Each P seen → Each P vs → Each P (distinct seen vs)
unfolding distinct with
each_distinct P seen [] h k = h
each_distinct P seen (v ∷ vs) h k = each_distinct P (with seen v) vs (decide (ltb (index_of seen v) (length seen))) k.1
  where
    decide : (b : Bool) → Each P (cond b seen (seen ++ (v ∷ [])))
    decide true = h
    decide false = each_both P seen (v ∷ []) h (k.0, tt)

each_at : (vs : List Float) → Each (λ v. bad_literal v ≡ false) vs → GoodEach vs
each_at [] h i k = absurd (omega arith)
each_at (v ∷ vs) h zero k = h.0
each_at (v ∷ vs) h (suc i) k = each_at vs h.1 i (omega arith)

-- the literals of good values are good
pub good_distinct : (vs : List Float) → Each (λ v. bad_literal v ≡ false) vs → GoodEach (distinct [] vs)
good_distinct vs h = each_at (distinct [] vs) (each_distinct (λ v. bad_literal v ≡ false) [] vs tt h)

-- Tests and facts: how a Bool that a definition computes becomes something known, and back.
-- Assumes nothing.
use Prim.Native.Nat.{ℕ, ◌≤◌, ◌<◌}
use mathlib.Core.Path.{◌≡◌, refl, sym, subst}
use mathlib.Core.Logic.{◌⊎◌, inl, inr}
use mathlib.Core.Bool.{Bool, true, false, ◌&&◌, ◌||◌, not, true≢false}
use lib.Dec.{T, ltb, eqb, ltb→lt, leb→le, eqb→eq, lt→ltb, le→leb, nleb→lt, nltb→le, eqb_refl}
use borrow.Author.Tests.{ltb-true, ltb-false, eqb-true, eqb-false}

pub and_l : (a b : Bool) → T (a && b) → T a
and_l true b h = tt
and_l false b h = h

pub and_r : (a b : Bool) → T (a && b) → T b
and_r true b h = h
and_r false b h = absurd h

pub and_i : (a b : Bool) → T a → T b → T (a && b)
and_i true b h k = k
and_i false b h k = h

pub or_i_l : (a b : Bool) → T a → T (a || b)
or_i_l true b h = tt
or_i_l false b h = absurd h

pub or_i_r : (a b : Bool) → T b → T (a || b)
or_i_r true b h = tt
or_i_r false b h = h

pub or_e : {C : Type 0} (a b : Bool) → T (a || b) → (T a → C) → (T b → C) → C
or_e true b h f g = f tt
or_e false b h f g = g h

pub or_none_l : (a b : Bool) → (a || b) ≡ false → a ≡ false
or_none_l true b h = h
or_none_l false b h = refl

pub or_none_r : (a b : Bool) → (a || b) ≡ false → b ≡ false
or_none_r true b h = absurd (true≢false h)
or_none_r false b h = h

pub not_e : (b : Bool) → T (not b) → T b → ⊥
not_e true h k = h
not_e false h k = k

-- two tests that follow from each other are equal
pub same : (a b : Bool) → (T a → T b) → (T b → T a) → a ≡ b
same true true f g = refl
same true false f g = absurd (f tt)
same false true f g = absurd (g tt)
same false false f g = refl

pub truly : {b : Bool} → b ≡ true → T b
truly e = subst T (sym e) tt

pub is_true : (b : Bool) → T b → b ≡ true
is_true true h = refl
is_true false h = absurd h

pub is_false : (b : Bool) → (T b → ⊥) → b ≡ false
is_false true f = absurd (f tt)
is_false false f = refl

pub not_false : (b : Bool) → not b ≡ false → T b
not_false true e = tt
not_false false e = subst T e tt

-- what does not hold is refuted
pub untrue : {b : Bool} → b ≡ false → T b → ⊥
untrue e h = subst T e h

pub eq→eqb : (a b : ℕ) → a ≡ b → T (eqb a b)
eq→eqb a b e = subst (λ (k : ℕ). T (eqb a k)) e (eqb_refl a)

pub eqb_sym : (a b : ℕ) → eqb a b ≡ eqb b a
eqb_sym a b = same (eqb a b) (eqb b a) (λ h. eq→eqb b a (sym (eqb→eq a b h))) (λ h. eq→eqb a b (sym (eqb→eq b a h)))

-- numbers are in order one way or the other, and equal or not
pub lt_or_ge : (a b : ℕ) → (a < b) ⊎ (b ≤ a)
lt_or_ge a b = by (ltb a b) refl
  where
    by : (t : Bool) → ltb a b ≡ t → (a < b) ⊎ (b ≤ a)
    by true e = inl (ltb-true a b e)
    by false e = inr (ltb-false a b e)

pub eq_or_ne : (a b : ℕ) → (a ≡ b) ⊎ (a ≡ b → ⊥)
eq_or_ne a b = by (eqb a b) refl
  where
    by : (t : Bool) → eqb a b ≡ t → (a ≡ b) ⊎ (a ≡ b → ⊥)
    by true e = inl (eqb-true a b e)
    by false e = inr (eqb-false a b e)

-- a goal that is a test from a fact, and a fact from a test
pub ruleset tests = (ltb→lt, leb→le, eqb→eq, nleb→lt, nltb→le, lt→ltb, le→leb, eq→eqb)

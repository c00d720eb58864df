-- Laws of urgency: the most urgent fault of two lists is the greater, so that all that is said of faults is arithmetic with `max`.
-- Assumes nothing.
use Prim.Native.Nat.{ℕ, max}
use mathlib.Core.Path.{◌≡◌, refl, sym, ◌∙◌, ap}
use mathlib.Core.Bool.{Bool, true, false, not, cond}
use mathlib.Core.List.{List, [], ◌∷◌, ◌++◌}
use native.Mathlib.Nat.{max_comm, max-zero, zero-max}
use native.Mathlib.Omega.{arith}
use Rattle.text.specs.Grammar.{Token}
use Rattle.text.specs.Syntax.{Kind, Syntax, blank, part, begin}
use Rattle.text.specs.declared.Fault.{Fault}
use Rattle.text.specs.Limited.{Source, place, sort, number_taken, path_taken, as_number, as_path, fault, own, faults}
use Rattle.text.specs.Survey.{urgency, worst, noted}

-- ---- max

pub max_assoc : (a b c : ℕ) → max (max a b) c ≡ max a (max b c)
max_assoc a b c = omega arith

pub max_left_comm : (a b c : ℕ) → max a (max b c) ≡ max b (max a c)
max_left_comm a b c = omega arith

pub max_same : (a : ℕ) → max a a ≡ a
max_same a = omega arith

pub max_again : (a b : ℕ) → max a (max a b) ≡ max a b
max_again a b = omega arith

pub ruleset maxima = (max_assoc, max_comm, max_left_comm, max_same, max_again, max-zero, zero-max)

-- ---- faults

-- what a fault 26 at p counts for, if the test holds
abbrev pub mark : Source → Bool → ℕ → ℕ
mark s test p = cond test (urgency s 26 p) 0

pub noted_mark : (s : Source) (test : Bool) (p found : ℕ) → noted s test p found ≡ max (mark s test p) found
unfolding noted
noted_mark s true p found = refl
noted_mark s false p found = sym (zero-max found)

pub worst_append : (s : Source) (l m : List Fault) → worst s (l ++ m) ≡ max (worst s l) (worst s m)
unfolding worst
worst_append s [] m = sym (zero-max (worst s m))
worst_append s (f ∷ l) m =
    ap (max (urgency s f.number f.place)) (worst_append s l m)
    ∙ sym (max_assoc (urgency s f.number f.place) (worst s l) (worst s m))

-- the most urgent fault in a construct
abbrev pub worst_in : Source → Syntax → ℕ
worst_in s x = worst s (faults s x)

pub worst_parts :
    (s : Source) (k : Kind) (t : Token) (i : ℕ) (a b c : Syntax)
    → worst_in s (part k t i a b c) ≡ max (worst s (own s k t i a c)) (max (worst_in s a) (max (worst_in s b) (worst_in s c)))
unfolding faults
worst_parts s k t i a b c = simp worst_append

pub worst_blank : (s : Source) → worst_in s blank ≡ 0
unfolding faults worst
worst_blank s = refl

-- a single fault 26, if the test holds
pub worst_one : (s : Source) (test : Bool) (i : ℕ) → worst s (cond test (fault s 26 i) []) ≡ mark s test (place s i)
unfolding worst
worst_one s true i = max-zero (urgency s 26 (place s i))
worst_one s false i = refl

pub worst_else : (s : Source) (test : Bool) (i : ℕ) → worst s (cond test [] (fault s 26 i)) ≡ mark s (not test) (place s i)
unfolding worst
worst_else s true i = refl
worst_else s false i = max-zero (urgency s 26 (place s i))

-- ---- faults of constructs

module _ (s : Source) where
  pub as_number_lem : (x : Syntax) → worst s (as_number s x) ≡ mark s (not (number_taken (sort s x))) (place s (begin x))
  unfolding as_number
  as_number_lem x = worst_else s (number_taken (sort s x)) (begin x)

  pub as_a_path : (x : Syntax) → worst s (as_path s x) ≡ mark s (not (path_taken (sort s x))) (place s (begin x))
  unfolding as_path
  as_a_path x = worst_else s (path_taken (sort s x)) (begin x)

  -- a construct of one token, and nothing at all
  pub leaf_worst : (k : Kind) (t : Token) (i : ℕ) → worst_in s (part k t i blank blank blank) ≡ worst s (own s k t i blank blank)
  leaf_worst k t i = worst_parts s k t i blank blank blank ∙ rw (worst_blank, max-zero 0, max-zero 0, max-zero)

  pub leaf_finds :
      (k : Kind) (t : Token) (i found : ℕ)
      → max (worst s (own s k t i blank blank)) found ≡ max (worst_in s (part k t i blank blank blank)) found
  leaf_finds k t i found = ap (λ (w : ℕ). max w found) (sym (leaf_worst k t i))

  pub blank_finds : (found : ℕ) → found ≡ max (worst_in s blank) found
  unfolding faults worst
  blank_finds found = sym (zero-max found)

  -- one with no fault of its own
  pub quiet_worst :
      (k : Kind) (t : Token) (i : ℕ) (x y : Syntax) → own s k t i x y ≡ []
      → worst_in s (part k t i x blank y) ≡ max (worst_in s x) (worst_in s y)
  unfolding worst
  quiet_worst k t i x y e = worst_parts s k t i x blank y ∙ rw (e, worst_blank, zero-max (worst_in s y), zero-max)

  pub quiet_finds :
      (k : Kind) (t : Token) (i : ℕ) (x y : Syntax) → own s k t i x y ≡ [] → (found : ℕ)
      → max (worst_in s y) (max (worst_in s x) found) ≡ max (worst_in s (part k t i x blank y)) found
  quiet_finds k t i x y e found = rw (quiet_worst k t i x y e) (simp maxima)

  -- one that is not held, with its own fault at its first byte
  pub unheld_worst :
      (k : Kind) (t : Token) (i : ℕ) (x y : Syntax) → own s k t i x y ≡ fault s 26 i
      → worst_in s (part k t i x blank y) ≡ max (mark s true (place s i)) (max (worst_in s x) (worst_in s y))
  unfolding worst
  unheld_worst k t i x y e = worst_parts s k t i x blank y ∙ rw (e, worst_blank, zero-max, max-zero)

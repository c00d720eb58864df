-- Faults of a text: what it says that there are none, of a construct's own checks, of its parts and of its number literals, whose values are
-- good literals of document 01; and every fault has a number, so an answer of 0 says that there are none.
-- Assumes nothing.
use Rattle.text.specs.declared.Function.{Function}
use Rattle.text.specs.declared.Function.TheVariants.{PositionCall, LastCall, CountCall, NotCall, BooleanCall, OtherCall}
use Prim.Native.Nat.{ℕ, ◌<◌, ◌≤◌}
use mathlib.Core.Path.{◌≡◌, refl, sym, subst⁻¹, ◌∙◌}
use mathlib.Core.Bool.{Bool, true, false, cond, true≢false}
use mathlib.Core.List.{List, [], ◌∷◌, ◌++◌}
use lib.ListN.{length}
use lib.Dec.{ltb, leb}
use lib.Ieee.{Float}
use native.Mathlib.Omega.{arith}
use borrow.Author.Tests.{ltb-false}
use Rattle.meaning.specs.Rows.{bad_literal}
use Rattle.meaning.specs.declared.Answer.{Answer}
use Rattle.names.specs.Names.{is_named}
use Rattle.text.specs.Grammar.{Token}
use Rattle.text.specs.Syntax.{Kind, word, number, string, variable, group, call, arguments, negative, binary, union, filter, onward, relative, absolute, chain, step, self, parent, axis, attribute, named, typed, instruction, target, predicates, is_kind, Syntax, blank, part}
use Rattle.text.specs.Growing.{tightness}
use Rattle.text.specs.declared.Fault.{Fault}
use Rattle.text.specs.Limited.{Source, place, word_of, is_star, has_prefix, function_of, is_held_call, holds_axis, number_at, digits, most_digits, value_at, is_path, sort, fault, number_taken, path_taken, as_number, as_path, name_faults, digit_faults, argument_faults, own, faults, text_faults, before, least}
use Rattle.text.specs.Reading.{values, literals_of, fault_check}
use Rattle.text.proofs.Literals.{GoodEach, Each, each_both, good_distinct}
use Rattle.text.proofs.Values.{good_value}

-- ---- no faults

-- both parts of nothing are nothing
pub front_none : {A : Type 0} (xs ys : List A) → xs ++ ys ≡ [] → xs ≡ []
front_none [] ys e = refl
front_none (x ∷ xs) ys e = cc

pub rear_none : {A : Type 0} (xs ys : List A) → xs ++ ys ≡ [] → ys ≡ []
rear_none [] ys e = e
rear_none (x ∷ xs) ys e = cc

-- a list with a fault is not empty
abbrev Empty : List Fault → Type 0
Empty [] = Unit {0}
Empty (f ∷ fs) = ⊥

pub faulty : {A : Type 0} {f : Fault} {fs : List Fault} → f ∷ fs ≡ [] → A
faulty e = absurd (subst⁻¹ Empty e tt)

-- a check that gave no fault
pub passed : (b : Bool) (f : Fault) → cond b [] (f ∷ []) ≡ [] → b ≡ true
passed true f e = refl
passed false f e = faulty e

-- ---- faults have numbers

-- each has one
abbrev Numbered : List Fault → Type 0
Numbered [] = Unit {0}
Numbered (f ∷ fs) = (0 < f.number) × Numbered fs

numbered_both : (xs ys : List Fault) → Numbered xs → Numbered ys → Numbered (xs ++ ys)
numbered_both [] ys h k = k
numbered_both (x ∷ xs) ys h k = (h.0, numbered_both xs ys h.1 k)

numbered_one : (b : Bool) (xs ys : List Fault) → Numbered xs → Numbered ys → Numbered (cond b xs ys)
numbered_one true xs ys h k = h
numbered_one false xs ys h k = k

least_numbered : (f : Fault) (fs : List Fault) → 0 < f.number → Numbered fs → 0 < (least f fs).number
unfolding least
least_numbered f [] h k = h
least_numbered f (g ∷ fs) h k = least_numbered (cond (before f g) f g) fs (decide (before f g)) k.1
  where
    decide : (b : Bool) → 0 < (cond b f g).number
    decide true = h
    decide false = k.0

-- numbered faults with the answer 0 are none
no_faults : (fs : List Fault) (next : Answer) → Numbered fs → (fault_check fs next).number ≡ 0 → fs ≡ []
unfolding fault_check
no_faults [] next h e = refl
no_faults (f ∷ fs) next h e = absurd (omega (arith, least_numbered f fs h.0 h.1))

-- where there are none, what follows is given
pub fault_free : (fs : List Fault) (next : Answer) → fs ≡ [] → fault_check fs next ≡ next
unfolding fault_check
fault_free fs next e = rw e

-- of another kind than a number literal
no_number : {A : Type 0} → false ≡ true → A
no_number e = absurd (true≢false (sym e))

module _ (s : Source) where
  number_asked : (e : Syntax) → Numbered (as_number s e)
  unfolding as_number
  number_asked e = numbered_one (number_taken (sort s e)) [] _ tt (omega arith, tt)

  path_asked : (e : Syntax) → Numbered (as_path s e)
  unfolding as_path
  path_asked e = numbered_one (path_taken (sort s e)) [] _ tt (omega arith, tt)

  argument_asked : (f : Function) (c : Syntax) → Numbered (argument_faults s f c)
  unfolding argument_faults
  argument_asked PositionCall c = tt
  argument_asked LastCall c = tt
  argument_asked CountCall c = path_asked c
  argument_asked NotCall c = tt
  argument_asked BooleanCall c = tt
  argument_asked OtherCall c = tt

  name_asked : (i : ℕ) → Numbered (name_faults s i)
  unfolding name_faults
  name_asked i =
      numbered_one (is_star s.text (place s i)) [] _ tt
      (numbered_one (has_prefix s.text (place s i)) _ _ (omega arith, tt)
      (numbered_one (is_named s.names (word_of s i)) [] _ tt (omega arith, tt)))

  -- how many digits the number literal at token i has
  abbrev digit_count : ℕ → ℕ
  digit_count i = length (digits (number_at s.text (place s i)))

  -- a construct's own faults have numbers, and those of a number literal are its digits'
  own_numbered :
      (k : Kind) (t : Token) (i : ℕ) (a c : Syntax)
      → Numbered (own s k t i a c) × (is_kind k number ≡ true → own s k t i a c ≡ digit_faults s i)
  unfolding own digit_faults
  own_numbered word t i a c = (tt, no_number)
  own_numbered number t i a c = (numbered_one (ltb most_digits (digit_count i)) _ [] (omega arith, tt) tt, (λ e. refl))
  own_numbered string t i a c = ((omega arith, tt), no_number)
  own_numbered variable t i a c = ((omega arith, tt), no_number)
  own_numbered group t i a c = (numbered_one (is_path (sort s c)) _ [] (omega arith, tt) tt, no_number)
  own_numbered call t i a c =
      (numbered_one (is_held_call s i c) _ _ (argument_asked (function_of (word_of s i)) c) (omega arith, tt), no_number)
  own_numbered arguments t i a c = (tt, no_number)
  own_numbered negative t i a c = (number_asked c, no_number)
  own_numbered binary t i a c =
      (numbered_one (leb 3 (tightness t)) _ [] (numbered_both (as_number s a) (as_number s c) (number_asked a) (number_asked c)) tt, no_number)
  own_numbered union t i a c = ((omega arith, tt), no_number)
  own_numbered filter t i a c = ((omega arith, tt), no_number)
  own_numbered onward t i a c = ((omega arith, tt), no_number)
  own_numbered relative t i a c = (tt, no_number)
  own_numbered absolute t i a c = (tt, no_number)
  own_numbered chain t i a c = (tt, no_number)
  own_numbered step t i a c = (tt, no_number)
  own_numbered self t i a c = (tt, no_number)
  own_numbered parent t i a c = (tt, no_number)
  own_numbered axis t i a c = (numbered_one (holds_axis (word_of s i)) [] _ tt (omega arith, tt), no_number)
  own_numbered attribute t i a c = (tt, no_number)
  own_numbered named t i a c = (name_asked i, no_number)
  own_numbered typed t i a c = (tt, no_number)
  own_numbered instruction t i a c = (tt, no_number)
  own_numbered target t i a c = ((omega arith, tt), no_number)
  own_numbered predicates t i a c = (tt, no_number)

  faults_numbered : (e : Syntax) → Numbered (faults s e)
  unfolding faults
  faults_numbered blank = tt
  faults_numbered (part k t i a b c) =
      numbered_both (own s k t i a c) _ (own_numbered k t i a c).0
      (numbered_both (faults s a) _ (faults_numbered a) (numbered_both (faults s b) (faults s c) (faults_numbered b) (faults_numbered c)))

  -- an answer of 0 says that a text has no faults
  pub text_faultless : (e : Syntax) (next : Answer) → (fault_check (text_faults s e) next).number ≡ 0 → text_faults s e ≡ []
  unfolding text_faults
  text_faultless e next = no_faults (text_faults s e) next (numbered_both (as_path s e) (faults s e) (path_asked e) (faults_numbered e))

  -- ---- literals

  few_digits : (i : ℕ) → digit_faults s i ≡ [] → digit_count i ≤ most_digits
  unfolding digit_faults
  few_digits i e = decide (ltb most_digits (digit_count i)) refl e
    where
      decide : (b : Bool) → ltb most_digits (digit_count i) ≡ b → cond b (fault s 25 i) [] ≡ [] → digit_count i ≤ most_digits
      decide true q e = faulty e
      decide false q e = ltb-false most_digits (digit_count i) q

  values_good : (e : Syntax) → faults s e ≡ [] → Each (λ v. bad_literal v ≡ false) (values s e)
  unfolding values faults
  values_good blank h = tt
  values_good (part k t i a b c) h =
      let parts : faults s a ++ (faults s b ++ faults s c) ≡ [] = rear_none (own s k t i a c) _ h in
      let later : faults s b ++ faults s c ≡ [] = rear_none (faults s a) _ parts in
      decide (is_kind k number) refl (front_none (own s k t i a c) _ h)
      (each_both Good (values s a) _ (values_good a (front_none (faults s a) _ parts))
      (each_both Good (values s b) (values s c)
      (values_good b (front_none (faults s b) (faults s c) later)) (values_good c (rear_none (faults s b) (faults s c) later))))
    where
      Good : Float → Type 0
      Good v = bad_literal v ≡ false

      decide :
          (q : Bool) → is_kind k number ≡ q → own s k t i a c ≡ [] → Each Good (values s a ++ (values s b ++ values s c))
          → Each Good (cond q (value_at s.text (place s i) ∷ []) (values s a ++ (values s b ++ values s c)))
      decide true q e inner = (good_value s.text (place s i) (few_digits i (sym ((own_numbered k t i a c).1 q) ∙ e)), tt)
      decide false q e inner = inner

  -- the literals of a text without faults are good
  pub good_literals : (e : Syntax) → faults s e ≡ [] → GoodEach (literals_of s e)
  unfolding literals_of
  good_literals e h = good_distinct (values s e) (values_good e h)

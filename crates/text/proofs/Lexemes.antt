-- What a token takes of its text: every token but `unknown` ends behind the byte that begins it, and within the text; and its number is that
-- of a class.
-- Assumes nothing.
use Rattle.text.specs.declared.Run.{Run}
use Rattle.text.specs.declared.Run.TheVariants.{Spaces, Digits, NameBytes, Until}
use Prim.Native.Nat.{ℕ, suc, ◌+◌, ◌<◌, ◌≤◌}
use mathlib.Core.Path.{◌≡◌, refl, sym, ◌∙◌, ap}
use mathlib.Core.Bool.{Bool, true, false, ◌&&◌, ◌||◌, cond, true≢false, and-false}
use mathlib.Core.List.{List, [], ◌∷◌}
use mathlib.Core.Logic.{⊎_elim}
use lib.Dec.{eqb, ltb}
use lib.ListN.{length, drop, length-drop, drop_of_length-le, get_or-eq_default}
use lib.Seq.{drop-cons}
use native.Mathlib.Omega.{arith}
use native.Mathlib.Numerals.{add-one}
use borrow.Author.Tests.{ltb-true, eqb-false, ne_eqb}
use Rattle.meaning.proofs.Bools.{lt_or_ge}
use Rattle.decimal.specs.Decimal.{is_digit}
use Rattle.names.specs.Names.{is_letter, position, same}
use Rattle.text.specs.declared.Lexeme.{Lexeme}
use Rattle.text.specs.Grammar.{Token, opening, closing, '[', ']', dot, dots, at, comma, '::', NameTest, NodeType, 'processing_instruction', FunctionName, AxisName, Literal, Number, VariableReference, '/', '//', '|', '+', '-', '=', '!=', '<', '<=', '>', '>=', MultiplyOperator, 'and', 'or', 'div', 'mod', unknown}
use Rattle.text.specs.Tokens.{code, class_of, passes, many, byte, run_end, class_among, operator_name, node_type, axis_names, axis_name, between, pairs, pair_class, mark_class, name_end, star_at, opens_at, axis_at, name_class, named, number_end, quoted, punctuation, number_at, quote_at, letter_at, variable_at, lexeme}

-- ---- tests

-- a choice has a property where both of its sides have it, each under its own test
pub choice : {A : Type 0} (P : A → Type 0) (b : Bool) {x y : A} → (b ≡ true → P x) → (b ≡ false → P y) → P (cond b x y)
choice P true f g = f refl
choice P false f g = g refl

pub both_l : (a b : Bool) → (a && b) ≡ true → a ≡ true
both_l true b e = refl
both_l false b e = e

pub both_r : (a b : Bool) → (a && b) ≡ true → b ≡ true
both_r true b e = e
both_r false b e = absurd (true≢false (sym e))

-- a byte with a property that 0 lacks stands in the text
pub there : (p : ℕ → Bool) → p 0 ≡ false → (text : List ℕ) (i : ℕ) → p (byte text i) ≡ true → i < length text
there p z text i e =
    ⊎_elim
    (λ h. h)
    (λ h. absurd (true≢false (sym e ∙ ap p (get_or-eq_default text 0 h) ∙ z)))
    (lt_or_ge i (length text))

-- a byte that is not 0 stands in the text
pub equal_inside : (text : List ℕ) (i b : ℕ) → 0 < b → eqb (byte text i) b ≡ true → i < length text
equal_inside text i b h e = there (λ x. eqb x b) (ne_eqb 0 b (λ t. omega (arith, t))) text i e

-- ---- runs

many_fits : (q : Run) (l : List ℕ) → many q l ≤ length l
unfolding many
many_fits q [] = omega arith
many_fits q (b ∷ l) = choice (λ n. n ≤ suc (length l)) (passes q b) (λ _. omega (arith, many_fits q l)) (λ _. omega arith)

pub run_behind : (q : Run) (text : List ℕ) (i : ℕ) → i ≤ run_end q text i
unfolding run_end
run_behind q text i = omega arith

pub run_within : (q : Run) (text : List ℕ) (i : ℕ) → i ≤ length text → run_end q text i ≤ length text
unfolding run_end
run_within q text i h = omega (arith, many_fits q (drop i text), length-drop i text)

-- a run that begins with a byte that passes takes it
pub run_takes : (q : Run) (text : List ℕ) (i : ℕ) → i < length text → passes q (byte text i) ≡ true → i < run_end q text i
unfolding run_end many
run_takes q text i h e = rw (drop-cons text i 0 h, e) (omega arith)

-- where a byte passes the run's end is that from the next byte; where one does not, and past the end, the run ends
module _ (q : Run) (text : List ℕ) (i : ℕ) where
  pub run_on : i < length text → passes q (byte text i) ≡ true → run_end q text (i + 1) ≡ run_end q text i
  unfolding run_end many
  run_on h p = rw (drop-cons text i 0 h, p, add-one) (omega arith)

  pub run_stop : i < length text → passes q (byte text i) ≡ false → run_end q text i ≡ i
  unfolding run_end many
  run_stop h p = rw (drop-cons text i 0 h, p) (omega arith)

  pub run_past : length text ≤ i → run_end q text i ≡ i
  unfolding run_end many
  run_past h = rw (drop_of_length-le text h) (omega arith)

-- ---- each kind of token

-- a token that is not `unknown` ends behind i and within the text
abbrev Takes : List ℕ → ℕ → Lexeme → Type 0
Takes text i f = (f.kind ≡ code unknown → ⊥) → (i < f.end) × (f.end ≤ length text)

module _ (text : List ℕ) where
  number_within : (i : ℕ) → i ≤ length text → number_end text i ≤ length text
  unfolding number_end
  number_within i h =
      choice (λ n. n ≤ length text) (eqb (byte text (run_end Digits text i)) 46)
      (λ e. run_within Digits text (run_end Digits text i + 1) (omega (arith, there (λ b. eqb b 46) refl text (run_end Digits text i) e)))
      (λ e. run_within Digits text i h)

  number_takes : (i : ℕ) → i < length text → number_at text i ≡ true → i < number_end text i
  unfolding number_end number_at
  number_takes i h e =
      choice (λ n. i < n) (eqb (byte text (run_end Digits text i)) 46)
      (λ _. omega (arith, run_behind Digits text i, run_behind Digits text (run_end Digits text i + 1)))
      (λ d. ⊎_elim (λ l. l) (λ l. point (omega (arith, run_behind Digits text i)) d) (lt_or_ge i (run_end Digits text i)))
    where
      digit :
          (t : Bool) → is_digit (byte text i) ≡ t → (t || (eqb (byte text i) 46 && is_digit (byte text (i + 1)))) ≡ true
          → eqb (byte text i) 46 ≡ false → i < run_end Digits text i
      digit true a k d = run_takes Digits text i h a
      digit false a k d = absurd (true≢false (sym (both_l (eqb (byte text i) 46) (is_digit (byte text (i + 1))) k) ∙ d))

      point : run_end Digits text i ≡ i → eqb (byte text (run_end Digits text i)) 46 ≡ false → i < run_end Digits text i
      point s d = digit (is_digit (byte text i)) refl e (ap (λ (n : ℕ). eqb (byte text n) 46) (sym s) ∙ d)

  quoted_takes : (i q : ℕ) → Takes text i (quoted text i q)
  unfolding quoted
  quoted_takes i q =
      choice (Takes text i) (ltb (run_end (Until q) text (i + 1)) (length text))
      (λ e _. (omega (arith, run_behind (Until q) text (i + 1)), omega (arith, ltb-true (run_end (Until q) text (i + 1)) (length text) e)))
      (λ _ n. absurd (n refl))

  pub name_behind : (i : ℕ) → run_end NameBytes text i ≤ name_end text i
  unfolding name_end
  name_behind i =
      choice (λ n. run_end NameBytes text i ≤ n) (eqb (byte text (run_end NameBytes text i)) 58 && is_letter (byte text (run_end NameBytes text i + 1)))
      (λ _. omega (arith, run_behind NameBytes text (run_end NameBytes text i + 1)))
      (λ _. omega arith)

  pub name_within : (i : ℕ) → i ≤ length text → name_end text i ≤ length text
  unfolding name_end
  name_within i h =
      choice (λ n. n ≤ length text) (eqb (byte text (run_end NameBytes text i)) 58 && is_letter (byte text (run_end NameBytes text i + 1)))
      (λ e. run_within NameBytes text (run_end NameBytes text i + 1)
      (omega (arith, there (λ b. eqb b 58) refl text (run_end NameBytes text i) (both_l (eqb (byte text (run_end NameBytes text i)) 58) _ e))))
      (λ _. run_within NameBytes text i h)

  name_takes : (i : ℕ) → i < length text → letter_at text i ≡ true → i < run_end NameBytes text i
  unfolding letter_at
  name_takes i h e = run_takes NameBytes text i h (rw e)

  named_takes : (i : ℕ) (due : Bool) → i < length text → letter_at text i ≡ true → Takes text i (named text i due)
  unfolding named star_at
  named_takes i due h e =
      choice (Takes text i) (star_at text (run_end NameBytes text i))
      (λ s _.
      let l = there (λ b. eqb b 42) refl text (run_end NameBytes text i + 1) (both_r (eqb (byte text (run_end NameBytes text i)) 58) _ s) in
      (omega (arith, name_takes i h e), omega (arith, l)))
      (λ _ _. (omega (arith, name_takes i h e, name_behind i), name_within i (omega arith)))

  variable_takes : (i : ℕ) → variable_at text i ≡ true → (i < name_end text (i + 1)) × (name_end text (i + 1) ≤ length text)
  unfolding variable_at
  variable_takes i e =
      let l : i + 1 < length text = there is_letter refl text (i + 1) (both_r (eqb (byte text i) 36) (is_letter (byte text (i + 1))) e) in
      (omega (arith, run_behind NameBytes text (i + 1), name_behind (i + 1)), name_within (i + 1) (omega arith))

-- no token of two bytes ends with 0
pair_there : (b : ℕ) → pair_class b 0 ≡ code unknown
unfolding pair_class class_among pairs position same
pair_there b = simp and-false

module _ (text : List ℕ) where
  punctuation_takes : (i : ℕ) (due : Bool) → i < length text → Takes text i (punctuation text i due)
  unfolding punctuation
  punctuation_takes i due h =
      choice (Takes text i) (eqb (pair_class (byte text i) (byte text (i + 1))) (code unknown))
      (λ _ _. (omega arith, omega arith))
      (λ e _. (omega arith, ⊎_elim (λ l. omega arith) (λ l. absurd (past e l)) (lt_or_ge (i + 1) (length text))))
    where
      past : eqb (pair_class (byte text i) (byte text (i + 1))) (code unknown) ≡ false → length text ≤ i + 1 → ⊥
      past e l =
          eqb-false (pair_class (byte text i) (byte text (i + 1))) (code unknown) e
          (ap (pair_class (byte text i)) (get_or-eq_default text 0 l) ∙ pair_there (byte text i))

  pub lexeme_takes :
      (i : ℕ) (due : Bool) → i < length text → ((lexeme text i due).kind ≡ code unknown → ⊥)
      → (i < (lexeme text i due).end) × ((lexeme text i due).end ≤ length text)
  unfolding lexeme
  lexeme_takes i due h =
      choice (Takes text i) (number_at text i) (λ e _. (number_takes text i h e, number_within text i (omega arith))) (λ _.
      choice (Takes text i) (quote_at text i) (λ _. quoted_takes text i (byte text i)) (λ _.
      choice (Takes text i) (letter_at text i) (λ e. named_takes text i due h e) (λ _.
      choice (Takes text i) (variable_at text i) (λ e _. variable_takes text i e) (λ _.
      punctuation_takes i due h))))

-- ---- classes and their numbers

pub class_of_code : (t : Token) → class_of (code t) ≡ t
unfolding code
class_of_code opening = refl
class_of_code closing = refl
class_of_code '[' = refl
class_of_code ']' = refl
class_of_code dot = refl
class_of_code dots = refl
class_of_code at = refl
class_of_code comma = refl
class_of_code '::' = refl
class_of_code NameTest = refl
class_of_code NodeType = refl
class_of_code 'processing_instruction' = refl
class_of_code FunctionName = refl
class_of_code AxisName = refl
class_of_code Literal = refl
class_of_code Number = refl
class_of_code VariableReference = refl
class_of_code '/' = refl
class_of_code '//' = refl
class_of_code '|' = refl
class_of_code '+' = refl
class_of_code '-' = refl
class_of_code '=' = refl
class_of_code '!=' = refl
class_of_code '<' = refl
class_of_code '<=' = refl
class_of_code '>' = refl
class_of_code '>=' = refl
class_of_code MultiplyOperator = refl
class_of_code 'and' = refl
class_of_code 'or' = refl
class_of_code 'div' = refl
class_of_code 'mod' = refl
class_of_code unknown = refl

pub code_small : (t : Token) → code t < 34
unfolding code
code_small opening = omega arith
code_small closing = omega arith
code_small '[' = omega arith
code_small ']' = omega arith
code_small dot = omega arith
code_small dots = omega arith
code_small at = omega arith
code_small comma = omega arith
code_small '::' = omega arith
code_small NameTest = omega arith
code_small NodeType = omega arith
code_small 'processing_instruction' = omega arith
code_small FunctionName = omega arith
code_small AxisName = omega arith
code_small Literal = omega arith
code_small Number = omega arith
code_small VariableReference = omega arith
code_small '/' = omega arith
code_small '//' = omega arith
code_small '|' = omega arith
code_small '+' = omega arith
code_small '-' = omega arith
code_small '=' = omega arith
code_small '!=' = omega arith
code_small '<' = omega arith
code_small '<=' = omega arith
code_small '>' = omega arith
code_small '>=' = omega arith
code_small MultiplyOperator = omega arith
code_small 'and' = omega arith
code_small 'or' = omega arith
code_small 'div' = omega arith
code_small 'mod' = omega arith
code_small unknown = omega arith

-- a number of a class
abbrev IsClass : ℕ → Type 0
IsClass k = (t : Token) × (k ≡ code t)

abbrev Classed : Lexeme → Type 0
Classed f = IsClass f.kind

module _ (text : List ℕ) (i : ℕ) (due : Bool) where
  named_class : IsClass (named text i due).kind
  unfolding named name_class operator_name node_type axis_name class_among
  named_class =
      choice Classed (star_at text (run_end NameBytes text i))
      (λ _. choice IsClass due (λ _. (unknown, refl)) (λ _. (NameTest, refl)))
      (λ _. choice IsClass due (λ _. (_, refl)) (λ _.
      choice IsClass (opens_at text (run_end Spaces text (name_end text i))) (λ _. (_, refl)) (λ _.
      choice IsClass (axis_at text i (name_end text i) (run_end Spaces text (name_end text i)))
      (λ _. choice IsClass (ltb (position axis_names (between text i (name_end text i))) (length axis_names)) (λ _. (AxisName, refl)) (λ _. (unknown, refl)))
      (λ _. (NameTest, refl)))))

  punctuation_class : IsClass (punctuation text i due).kind
  unfolding punctuation pair_class mark_class class_among
  punctuation_class =
      choice Classed (eqb (pair_class (byte text i) (byte text (i + 1))) (code unknown))
      (λ _. choice IsClass (eqb (byte text i) 42) (λ _. choice IsClass due (λ _. (MultiplyOperator, refl)) (λ _. (NameTest, refl))) (λ _. (_, refl)))
      (λ _. (_, refl))

  lexeme_class : IsClass (lexeme text i due).kind
  unfolding lexeme quoted
  lexeme_class =
      choice Classed (number_at text i) (λ _. (Number, refl)) (λ _.
      choice Classed (quote_at text i)
      (λ _. choice Classed (ltb (run_end (Until (byte text i)) text (i + 1)) (length text)) (λ _. (Literal, refl)) (λ _. (unknown, refl))) (λ _.
      choice Classed (letter_at text i) (λ _. named_class) (λ _.
      choice Classed (variable_at text i) (λ _. (VariableReference, refl)) (λ _.
      punctuation_class))))

  -- the number is that of the class
  pub lexeme_code : (lexeme text i due).kind ≡ code (class_of (lexeme text i due).kind)
  lexeme_code = let (t, e) = lexeme_class in e ∙ sym (ap (λ (n : ℕ). code (class_of n)) e ∙ ap code (class_of_code t))

  -- so a token whose number is not that of `unknown` is not `unknown`
  pub lexeme_known : ((lexeme text i due).kind ≡ code unknown → ⊥) → class_of (lexeme text i due).kind ≡ unknown → ⊥
  lexeme_known n e = n (lexeme_code ∙ ap code e)

-- a token's class is one of the 34, and if it is known the token takes a byte at least and ends in the text
pub record Ended (text : List ℕ) (i : ℕ) (x : Lexeme) : Type 0 where
  pub class : x.kind < 34
  pub ends : (x.kind ≡ 33 → ⊥) → (i < x.end) × (x.end ≤ length text)

pub lexeme_end : (text : List ℕ) (i : ℕ) → i < length text → (due : Bool) → Ended text i (lexeme text i due)
unfolding code
lexeme_end text i h due = record {
  class = let (t, e) = lexeme_class text i due in omega (arith, e, code_small t);
  ends = lexeme_takes text i due h;
}

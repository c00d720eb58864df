-- Where tokens end: a name's token ends where the name does, unless it has a prefix, and a number's where the number does.
-- Assumes nothing.
use Rattle.text.specs.declared.Run.TheVariants.{Spaces, NameBytes, Until}
use Prim.Native.Nat.{ℕ, ◌+◌}
use native.Mathlib.Omega.{arith}
use mathlib.Core.Path.{◌≡◌, refl, sym, ◌∙◌}
use mathlib.Core.Bool.{Bool, true, false, ◌||◌, not, cond, true≢false}
use mathlib.Core.List.{List, [], ◌∷◌}
use lib.Dec.{T, eqb, ltb}
use lib.ListN.{length, get_or}
use borrow.Author.Tests.{eq-eqb}
use Rattle.meaning.proofs.Bools.{is_true, not_e, truly, or_i_r}
use Rattle.names.specs.Names.{position}
use Rattle.text.specs.declared.Lexeme.{Lexeme}
use Rattle.text.specs.Grammar.{Token, opening, closing, '[', ']', dot, dots, at, comma, '::', NameTest, NodeType, 'processing_instruction', FunctionName, '/', '//', '|', '+', '-', '=', '!=', '<', '<=', '>', '>=', 'and', 'or', 'div', 'mod', unknown}
use Rattle.text.specs.Tokens.{code, byte, run_end, between, name_end, number_end, class_among, operator_names, operator_name, node_types, node_type, axis_names, axis_name, pairs, pair_class, marks, mark_class, star_at, opens_at, axis_at, name_class, token, named, quoted, punctuation, number_at, quote_at, letter_at, variable_at, lexeme}
use Rattle.text.specs.Limited.{is_star, has_prefix}
use Rattle.text.proofs.Lexemes.{choice}
use Rattle.text.proofs.Leads.{all, all_at}

-- the classes of words: node types, functions and axes; and of what else has an end of its own
unfoldable pub is_word : ℕ → Bool
is_word k = eqb k 10 || (eqb k 12 || eqb k 13)

is_ending : ℕ → Bool
is_ending k = eqb k 15 || (eqb k 9 || is_word k)

-- a token that begins at p ends so
pub record Ends (text : List ℕ) (p : ℕ) (f : Lexeme) : Type 0 where
  pub word_ends : is_word f.kind ≡ true → f.end ≡ name_end text p
  pub test_ends : f.kind ≡ 9 → is_star text p ≡ false → has_prefix text p ≡ false → f.end ≡ name_end text p
  pub number_ends : f.kind ≡ 15 → f.end ≡ number_end text p

ending_number : (k : ℕ) → k ≡ 15 → is_ending k ≡ true
unfolding is_ending
ending_number k e = rw e

ending_test : (k : ℕ) → k ≡ 9 → is_ending k ≡ true
unfolding is_ending
ending_test k e = rw e

ending_word : (k : ℕ) → is_word k ≡ true → is_ending k ≡ true
unfolding is_ending
ending_word k e = is_true (is_ending k) (or_i_r (eqb k 15) _ (or_i_r (eqb k 9) _ (truly e)))

module _ (text : List ℕ) (p : ℕ) where
  -- any other token
  others : (f : Lexeme) → is_ending f.kind ≡ false → Ends text p f
  others f n =
      record {
        word_ends = λ e. absurd (true≢false (sym (ending_word f.kind e) ∙ n));
        test_ends = λ e s h. absurd (true≢false (sym (ending_test f.kind e) ∙ n));
        number_ends = λ e. absurd (true≢false (sym (ending_number f.kind e) ∙ n));
      }

  -- of some classes none has an end of its own
  among : (words : List (List ℕ)) (ts : List Token) (other : Token) (w : List ℕ) → T (all (λ t. not (is_ending (code t))) ts) → T
      (not (is_ending (code other)))
      → is_ending (class_among words ts other w) ≡ false
  unfolding class_among
  among words ts other w h k = untrue_is (is_ending (code (get_or ts (position words w) other)))
      (all_at (λ t. not (is_ending (code t))) ts (position words w) other h k)
    where
      untrue_is : (b : Bool) → T (not b) → b ≡ false
      untrue_is true t = absurd t
      untrue_is false t = refl

  -- of some classes none is a number
  no_number : (words : List (List ℕ)) (ts : List Token) (other : Token) (w : List ℕ) → T (all (λ t. not (eqb (code t) 15)) ts) → T
      (not (eqb (code other) 15))
      → class_among words ts other w ≡ 15 → ⊥
  unfolding class_among
  no_number words ts other w h k e =
      not_e (eqb (code (get_or ts (position words w) other)) 15) (all_at (λ t. not (eqb (code t) 15)) ts (position words w) other h k)
      (truly (eq-eqb (code (get_or ts (position words w) other)) 15 e))

  name_no_number : (e next : ℕ) (due : Bool) → name_class text p e next due ≡ 15 → ⊥
  unfolding name_class operator_name node_type axis_name code
  name_no_number e next due =
      choice (λ k. k ≡ 15 → ⊥) due (λ _. no_number operator_names ('and' ∷ 'or' ∷ 'mod' ∷ 'div' ∷ []) unknown (between text p e) tt tt) (λ _.
      choice (λ k. k ≡ 15 → ⊥) (opens_at text next)
      (λ _. no_number node_types (NodeType ∷ NodeType ∷ 'processing_instruction' ∷ NodeType ∷ []) FunctionName (between text p e) tt tt)
      (λ _.
      choice (λ k. k ≡ 15 → ⊥) (axis_at text p e next)
      (λ _. choice (λ k. k ≡ 15 → ⊥) (ltb (position axis_names (between text p e)) (length axis_names)) (λ _ e. omega arith)
      (λ _ e. omega arith))
      (λ _ e. omega arith)))

  prefixed : star_at text (run_end NameBytes text p) ≡ true → has_prefix text p ≡ true
  unfolding has_prefix
  prefixed s = rw s

  star_is : eqb (byte text p) 42 ≡ true → is_star text p ≡ true
  unfolding is_star
  star_is e = e

  named_ends : (due : Bool) → Ends text p (named text p due)
  unfolding named code is_word
  named_ends due =
      choice (Ends text p) (star_at text (run_end NameBytes text p))
      (λ s. starred due s)
      (λ _. record {
        word_ends = λ _. refl;
        test_ends = λ _ _ _. refl;
        number_ends = λ e. absurd
            (name_no_number (name_end text p) (run_end Spaces text (name_end text p)) due e);
      })
    where
      starred : (due : Bool) → star_at text (run_end NameBytes text p) ≡ true → Ends text p
          (token (cond due (code unknown) (code NameTest)) (run_end NameBytes text p + 2))
      starred true s = record {
        word_ends = λ e. absurd (true≢false (sym e));
        test_ends = λ e _ _. absurd (omega arith);
        number_ends = λ e. absurd (omega arith);
      }
      starred false s =
          record {
            word_ends = λ e. absurd (true≢false (sym e));
            test_ends = λ e _ h. absurd (true≢false (sym (prefixed s) ∙ h));
            number_ends = λ e. absurd (omega arith);
          }

  marked_ends : (due : Bool) → Ends text p (token (mark_class (byte text p) due) (p + 1))
  unfolding mark_class code is_word is_ending
  marked_ends due =
      choice (λ k. Ends text p (token k (p + 1))) (eqb (byte text p) 42) (λ e. starred due e)
      (λ _. others (token (class_among marks
      (opening ∷ closing ∷ '[' ∷ ']' ∷ dot ∷ at ∷ comma ∷ '/' ∷ '|' ∷ '+' ∷ '-' ∷ '=' ∷ '<' ∷ '>' ∷ []) unknown (byte text p ∷ [])) (p + 1))
      (among marks (opening ∷ closing ∷ '[' ∷ ']' ∷ dot ∷ at ∷ comma ∷ '/' ∷ '|' ∷ '+' ∷ '-' ∷ '=' ∷ '<' ∷ '>' ∷ []) unknown
      (byte text p ∷ []) tt tt))
    where
      starred : (due : Bool) → eqb (byte text p) 42 ≡ true → Ends text p (token (cond due 28 9) (p + 1))
      starred true e = record {
        word_ends = λ e. absurd (true≢false (sym e));
        test_ends = λ e _ _. absurd (omega arith);
        number_ends = λ e. absurd (omega arith);
      }
      starred false e =
          record {
            word_ends = λ e. absurd (true≢false (sym e));
            test_ends = λ _ s _. absurd (true≢false (sym (star_is e) ∙ s));
            number_ends = λ e. absurd (omega arith);
          }

  punctuation_ends : (due : Bool) → Ends text p (punctuation text p due)
  unfolding punctuation pair_class code is_ending is_word
  punctuation_ends due =
      choice (Ends text p) (eqb (pair_class (byte text p) (byte text (p + 1))) (code unknown)) (λ _. marked_ends due)
      (λ _. others (token (pair_class (byte text p) (byte text (p + 1))) (p + 2))
      (among pairs (dots ∷ '::' ∷ '//' ∷ '!=' ∷ '<=' ∷ '>=' ∷ []) unknown (byte text p ∷ byte text (p + 1) ∷ []) tt tt))

  pub lexeme_ends : (due : Bool) → Ends text p (lexeme text p due)
  unfolding lexeme quoted code is_ending is_word
  lexeme_ends due =
      choice (Ends text p) (number_at text p)
      (λ _. record { word_ends = λ e. absurd (true≢false (sym e)); test_ends = λ e _ _. absurd (omega arith); number_ends = λ _. refl })
      (λ _.
      choice (Ends text p) (quote_at text p)
      (λ _. choice (Ends text p) (ltb (run_end (Until (byte text p)) text (p + 1)) (length text)) (λ _. others _ refl) (λ _. others _ refl)) (λ _.
      choice (Ends text p) (letter_at text p) (λ _. named_ends due) (λ _.
      choice (Ends text p) (variable_at text p) (λ _. others _ refl) (λ _. punctuation_ends due))))

-- Where a token ends, by its class: a name where names end, a number where numbers do; so the bytes of the token are the word, or the number,
-- of which the definitions speak.
-- Assumes nothing.
use Rattle.text.specs.declared.Run.TheVariants.{Spaces, NameBytes, Until}
use Prim.Native.Nat.{ℕ, zero, suc, ◌+◌, ◌≤◌}
use native.Mathlib.Omega.{arith}
use mathlib.Core.Path.{◌≡◌, refl, sym, ◌∙◌, ap, subst}
use mathlib.Core.Bool.{Bool, true, false, ◌&&◌, ◌||◌, not, cond, true≢false}
use mathlib.Core.List.{List, [], ◌∷◌}
use Rattle.std.specs.Prelude.{Some, None, is_some}
use lib.ListN.{length, get_or}
use lib.Dec.{T, eqb, ltb}
use Rattle.meaning.proofs.Bools.{and_l, and_r}
use Rattle.names.specs.Names.{position, is_named, number_of}
use Rattle.text.specs.declared.Lexeme.{Lexeme}
use Rattle.text.specs.Grammar.{Token, opening, closing, '[', ']', dot, dots, at, comma, '::', NodeType, 'processing_instruction', FunctionName, '/', '//', '|', '+', '-', '=', '!=', '<', '<=', '>', '>=', 'and', 'or', 'div', 'mod', unknown}
use Rattle.text.specs.Tokens.{code, byte, run_end, between, class_among, operator_names, operator_name, node_types, node_type, axis_names, axis_name, pairs, pair_class, marks, mark_class, name_end, star_at, opens_at, axis_at, name_class, named, number_end, quoted, punctuation, number_at, quote_at, letter_at, variable_at, lexeme}
use Rattle.text.specs.Limited.{word_at, is_star, has_prefix}
use Rattle.text.specs.Limited as L
use Rattle.text.proofs.Lexemes.{choice, lexeme_takes}
use Rattle.survey.specs.Standing.{Reads}

-- ---- where a token ends

-- the end of a token of class k that begins at i
record Ends (text : List ℕ) (i k e : ℕ) : Type 0 where
  name : k ≡ 9 → is_star text i ≡ false → has_prefix text i ≡ false → e ≡ name_end text i
  function : k ≡ 12 → e ≡ name_end text i
  axis : k ≡ 13 → e ≡ name_end text i
  number : k ≡ 15 → e ≡ number_end text i

EndsAt : List ℕ → ℕ → Lexeme → Type 0
EndsAt text i f = Ends text i f.kind f.end

-- no class of those
apart : ℕ → Bool
apart k = not (eqb k 9 || (eqb k 12 || (eqb k 13 || eqb k 15)))

numberless : ℕ → Bool
numberless k = not (eqb k 15)

plain : (text : List ℕ) (i k e : ℕ) → T (apart k) → Ends text i k e
unfolding apart
plain text i k e h = record {
  name = λ z _ _. absurd (subst (λ (n : ℕ). T (apart n)) z h);
  function = λ z. absurd (subst (λ (n : ℕ). T (apart n)) z h);
  axis = λ z. absurd (subst (λ (n : ℕ). T (apart n)) z h);
  number = λ z. absurd (subst (λ (n : ℕ). T (apart n)) z h);
}

-- a name that is `*` or has a prefix
other_name : (text : List ℕ) (i e : ℕ) → (is_star text i ≡ false → has_prefix text i ≡ false → ⊥) → Ends text i 9 e
other_name text i e n = record {
  name = λ _ s h. absurd (n s h);
  function = λ z. absurd (omega arith);
  axis = λ z. absurd (omega arith);
  number = λ z. absurd (omega arith);
}

-- what holds of all classes of a list, and of another, holds of the one that is picked
every : (ℕ → Bool) → List Token → Bool
every p [] = true
every p (t ∷ ts) = p (code t) && every p ts

among : (p : ℕ → Bool) (ts : List Token) (k : ℕ) (d : Token) → T (every p ts) → T (p (code d)) → T (p (code (get_or ts k d)))
unfolding every
among p [] k d h e = e
among p (t ∷ ts) zero d h e = and_l (p (code t)) (every p ts) h
among p (t ∷ ts) (suc k) d h e = among p ts k d (and_r (p (code t)) (every p ts) h) e

module _ (text : List ℕ) (i : ℕ) (due : Bool) where
  name_numberless : (e next : ℕ) → T (numberless (name_class text i e next due))
  unfolding name_class operator_name node_type axis_name class_among numberless every code
  name_numberless e next =
      choice (λ k. T (numberless k)) due (λ _.
      among numberless ('and' ∷ 'or' ∷ 'mod' ∷ 'div' ∷ []) (position operator_names (between text i e)) unknown tt tt) (λ _.
      choice (λ k. T (numberless k)) (opens_at text next) (λ _.
      among numberless (NodeType ∷ NodeType ∷ 'processing_instruction' ∷ NodeType ∷ []) (position node_types (between text i e)) FunctionName tt tt) (λ _.
      choice (λ k. T (numberless k)) (axis_at text i e next)
      (λ _. choice (λ k. T (numberless k)) (ltb (position axis_names (between text i e)) (length axis_names)) (λ _. tt) (λ _. tt))
      (λ _. tt)))

  starred : star_at text (run_end NameBytes text i) ≡ true → has_prefix text i ≡ false → ⊥
  unfolding has_prefix
  starred s h = true≢false (sym (rw s) ∙ h)

  named_ends : EndsAt text i (named text i due)
  unfolding EndsAt named code apart numberless
  named_ends =
      choice (EndsAt text i) (star_at text (run_end NameBytes text i))
      (λ s. choice (λ k. Ends text i k (run_end NameBytes text i + 2)) due (λ _. plain text i 33 _ tt) (λ _. other_name text i _ (λ _ h. starred s h)))
      (λ _.
      let none = name_numberless (name_end text i) (run_end Spaces text (name_end text i)) in
      record {
        name = λ _ _ _. refl;
        function = λ _. refl;
        axis = λ _. refl;
        number = λ z. absurd (subst (λ (n : ℕ). T (numberless n)) z none);
      })

  punctuation_ends : EndsAt text i (punctuation text i due)
  unfolding EndsAt punctuation pair_class mark_class class_among is_star apart every code
  punctuation_ends =
      choice (EndsAt text i) (eqb (pair_class (byte text i) (byte text (i + 1))) (code unknown))
      (λ _. choice (λ k. Ends text i k (i + 1)) (eqb (byte text i) 42)
      (λ s. choice (λ k. Ends text i k (i + 1)) due (λ _. plain text i 28 _ tt) (λ _. other_name text i _ (λ z _. true≢false (sym s ∙ z))))
      (λ _.
      plain text i _ _
      (among apart (opening ∷ closing ∷ '[' ∷ ']' ∷ dot ∷ at ∷ comma ∷ '/' ∷ '|' ∷ '+' ∷ '-' ∷ '=' ∷ '<' ∷ '>' ∷ []) (position marks (byte text i ∷ [])) unknown tt tt)))
      (λ _.
      plain text i _ _
      (among apart (dots ∷ '::' ∷ '//' ∷ '!=' ∷ '<=' ∷ '>=' ∷ []) (position pairs (byte text i ∷ byte text (i + 1) ∷ [])) unknown tt tt))

  lexeme_ends : EndsAt text i (lexeme text i due)
  unfolding EndsAt lexeme quoted code apart
  lexeme_ends =
      choice (EndsAt text i) (number_at text i)
      (λ _. record {
        name = λ z _ _. absurd (omega arith);
        function = λ z. absurd (omega arith);
        axis = λ z. absurd (omega arith);
        number = λ _. refl;
      }) (λ _.
      choice (EndsAt text i) (quote_at text i)
      (λ _. choice (EndsAt text i) (ltb (run_end (Until (byte text i)) text (i + 1)) (length text)) (λ _. plain text i 14 _ tt) (λ _. plain text i 33 _ tt)) (λ _.
      choice (EndsAt text i) (letter_at text i) (λ _. named_ends) (λ _.
      choice (EndsAt text i) (variable_at text i) (λ _. plain text i 16 _ tt) (λ _.
      punctuation_ends))))

-- ---- the bytes of a token

pub reads_as : {text : List ℕ} {k n begin end : ℕ} → k ≡ n → Reads text k begin end → Reads text n begin end
reads_as {text} {begin = begin} {end = end} e r = subst (λ (k : ℕ). Reads text k begin end) e r

module _ {text : List ℕ} {kind begin end : ℕ} (r : Reads text kind begin end) where
  reads_ends : Ends text begin kind end
  unfolding EndsAt
  reads_ends = rw (r.class, r.ends) (lexeme_ends text begin r.due)

  pub reads_within : (begin ≤ end) × (end ≤ length text)
  unfolding code
  reads_within =
      let known : (lexeme text begin r.due).kind ≡ 33 → ⊥ = λ e. omega (arith, r.known, r.class, e) in
      let takes = lexeme_takes text begin r.due r.inside known in
      (omega (arith, takes.0, r.ends), omega (arith, takes.1, r.ends))

  pub name_word : kind ≡ 9 → is_star text begin ≡ false → has_prefix text begin ≡ false → between text begin end ≡ word_at text begin
  unfolding word_at
  name_word k s h = ap (between text begin) (reads_ends.name k s h)

  pub function_word : kind ≡ 12 → between text begin end ≡ word_at text begin
  unfolding word_at
  function_word k = ap (between text begin) (reads_ends.function k)

  pub axis_word : kind ≡ 13 → between text begin end ≡ word_at text begin
  unfolding word_at
  axis_word k = ap (between text begin) (reads_ends.axis k)

  pub number_bytes : kind ≡ 15 → between text begin end ≡ L.number_at text begin
  unfolding L.number_at
  number_bytes k = ap (between text begin) (reads_ends.number k)

-- ---- the number of a name

module _ (names : List (List ℕ)) (w : List ℕ) where
  pub nameless : is_some (cond (is_named names w) (Some (number_of names w)) None) ≡ false → is_named names w ≡ false
  nameless = by (is_named names w)
    where
      by : (b : Bool) → is_some (cond b (Some (number_of names w)) None) ≡ false → b ≡ false
      by true e = e
      by false e = refl

  pub has_name : is_some (cond (is_named names w) (Some (number_of names w)) None) ≡ true → is_named names w ≡ true
  has_name = by (is_named names w)
    where
      by : (b : Bool) → is_some (cond b (Some (number_of names w)) None) ≡ true → b ≡ true
      by true e = refl
      by false e = e

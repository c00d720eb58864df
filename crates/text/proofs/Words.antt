-- A token's bytes say what it is: the word, or the number, that stands at a token is given by the bytes from its first to its last,
-- whatever stands around it in the text.
-- Assumes nothing.
use Rattle.text.specs.declared.Run.TheVariants.{NameBytes, Until}
use Prim.Native.Nat.{ℕ, zero, suc, ◌+◌, ◌-◌, ◌<◌, ◌≤◌}
use mathlib.Core.Path.{◌≡◌, refl, sym, ◌∙◌, ap}
use mathlib.Core.Bool.{Bool, true, false, ◌&&◌, ◌||◌, not, true≢false}
use mathlib.Core.List.{List, [], ◌∷◌, ◌++◌}
use mathlib.Core.Logic.{⊎_elim}
use lib.Dec.{eqb, ltb}
use lib.ListN.{length, get_or, take, drop, length-take, length-drop, take-append-drop, get_or-eq_default}
use lib.Seq.{get_or-take, get_or-drop, take-append-le}
use native.Mathlib.Omega.{arith}
use borrow.Author.Tests.{eqb-true}
use Rattle.meaning.proofs.Bools.{or_none_l, or_none_r, lt_or_ge}
use Rattle.names.specs.Names.{position}
use Rattle.text.specs.declared.Lexeme.{Lexeme}
use Rattle.text.specs.Grammar.{Token, opening, closing, '[', ']', dot, dots, at, comma, '::', NameTest, NodeType, 'processing_instruction', FunctionName, AxisName, Number, '/', '//', '|', '+', '-', '=', '!=', '<', '<=', '>', '>=', 'and', 'or', 'div', 'mod', unknown}
use Rattle.text.specs.Tokens.{code, class_of, byte, run_end, between, class_among, operator_name, node_type, axis_names, axis_name, pair_class, mark_class, name_end, star_at, opens_at, axis_at, name_class, named, number_end, quoted, punctuation, number_at, quote_at, letter_at, variable_at, lexeme, Placed, placed, tokens, classes_of}
use Rattle.text.specs.Tokens as X
use Rattle.text.specs.Limited.{Source, source, place, word_at, is_star}
use Rattle.text.specs.Limited as L
use Rattle.text.proofs.Lexemes.{choice, both_l, both_r, run_stop, lexeme_takes, lexeme_code, class_of_code}
use Rattle.text.proofs.Prefixes.{spaced, name_same}
use Rattle.text.proofs.Shifts.{Meets, meets_name}
use Rattle.text.proofs.Cutting.{Met, met, classes_length, cut_token, cut_class, cut_place}

-- ---- where words and numbers end

-- the class of numbers, and the classes that a word tells apart
abbrev pub is_number_class : ℕ → Bool
is_number_class k = eqb k (code Number)

abbrev pub is_word_class : ℕ → Bool
is_word_class k = eqb k (code NameTest) || eqb k (code NodeType) || eqb k (code FunctionName) || eqb k (code AxisName)

-- a token of class Number is all of a number, and one of a class of words holds all of its word
record Whole (text : List ℕ) (i : ℕ) (f : Lexeme) : Type 0 where
  number : is_number_class f.kind ≡ true → f.end ≡ number_end text i
  word : is_word_class f.kind ≡ true → name_end text i ≤ f.end

-- none of these classes passes a test
abbrev free : (ℕ → Bool) → List Token → Bool
free p [] = true
free p (t ∷ ts) = not (p (code t)) && free p ts

-- so of a word with a class among them
among :
    (p : ℕ → Bool) (words : List (List ℕ)) (ts : List Token) (d : Token) (w : List ℕ) → free p (d ∷ ts) ≡ true
    → p (class_among words ts d w) ≡ false
unfolding class_among
among p words ts d w h = by ts (position words w) (both_r (not (p (code d))) (free p ts) h)
  where
    first : (b c : Bool) → (not b && c) ≡ true → b ≡ false
    first true c e = sym e
    first false c e = refl

    by : (ts : List Token) (n : ℕ) → free p ts ≡ true → p (code (get_or ts n d)) ≡ false
    by [] n k = first (p (code d)) (free p ts) h
    by (t ∷ ts) zero k = first (p (code t)) (free p ts) k
    by (t ∷ ts) (suc n) k = by ts n (both_r (not (p (code t))) (free p ts) k)

-- a test that fails does not hold
never : {A : Type 0} {b : Bool} → b ≡ false → b ≡ true → A
never h e = absurd (true≢false (sym e ∙ h))

module _ (text : List ℕ) (i : ℕ) where
  mark_whole : (f : Lexeme) → (is_number_class f.kind || is_word_class f.kind) ≡ false → Whole text i f
  mark_whole f h =
      record {
        number = never (or_none_l (is_number_class f.kind) (is_word_class f.kind) h);
        word = never (or_none_r (is_number_class f.kind) (is_word_class f.kind) h);
      }

  quoted_whole : (q : ℕ) → Whole text i (quoted text i q)
  unfolding quoted code
  quoted_whole q =
      choice (Whole text i) (ltb (run_end (Until q) text (i + 1)) (length text)) (λ _. mark_whole _ refl) (λ _. mark_whole _ refl)

  -- a name that goes on with `:*` ends before it
  star_name : star_at text (run_end NameBytes text i) ≡ true → name_end text i ≡ run_end NameBytes text i
  unfolding star_at name_end
  star_name e =
      let star : byte text (run_end NameBytes text i + 1) ≡ 42 =
      eqb-true (byte text (run_end NameBytes text i + 1)) 42 (both_r (eqb (byte text (run_end NameBytes text i)) 58) _ e) in
      let colon : byte text (run_end NameBytes text i) ≡ 58 =
      eqb-true (byte text (run_end NameBytes text i)) 58 (both_l (eqb (byte text (run_end NameBytes text i)) 58) _ e) in
      rw (colon, star)

  -- a name is no number
  abbrev NoNumber : ℕ → Type 0
  NoNumber k = is_number_class k ≡ false

  name_other : (e next : ℕ) (due : Bool) → NoNumber (name_class text i e next due)
  unfolding name_class operator_name node_type axis_name code
  name_other e next due =
      let w : List ℕ = between text i e in
      choice NoNumber due (λ _. among is_number_class X.operator_names ('and' ∷ 'or' ∷ 'mod' ∷ 'div' ∷ []) unknown w refl) (λ _.
      choice NoNumber (opens_at text next)
      (λ _. among is_number_class X.node_types (NodeType ∷ NodeType ∷ 'processing_instruction' ∷ NodeType ∷ []) FunctionName w refl) (λ _.
      choice NoNumber (axis_at text i e next)
      (λ _. choice NoNumber (ltb (position axis_names (between text i e)) (length axis_names)) (λ _. refl) (λ _. refl))
      (λ _. refl)))

  named_whole : (due : Bool) → Whole text i (named text i due)
  unfolding named code
  named_whole due =
      choice (Whole text i) (star_at text (run_end NameBytes text i))
      (λ e. record {
        number = never (choice NoNumber due (λ _. refl) (λ _. refl));
        word = λ _. omega (arith, star_name e);
      })
      (λ _. record { number = never (name_other _ _ due); word = λ _. omega arith })

  -- `*` has no word
  star_whole : i < length text → eqb (byte text i) 42 ≡ true → name_end text i ≡ i
  unfolding name_end
  star_whole h e =
      let star : byte text i ≡ 42 = eqb-true (byte text i) 42 e in
      rw (run_stop NameBytes text i h (rw star), star)

  -- a sign is no number and no word, but for `*`
  pair_other : (b d : ℕ) → (is_number_class (pair_class b d) || is_word_class (pair_class b d)) ≡ false
  unfolding pair_class code
  pair_other b d =
      among (λ k. is_number_class k || is_word_class k) X.pairs (dots ∷ '::' ∷ '//' ∷ '!=' ∷ '<=' ∷ '>=' ∷ []) unknown (b ∷ d ∷ []) refl

  mark_other : (b : ℕ) (due : Bool) → eqb b 42 ≡ false → (is_number_class (mark_class b due) || is_word_class (mark_class b due)) ≡ false
  unfolding mark_class code
  mark_other b due e =
      rw e
      (among (λ k. is_number_class k || is_word_class k) X.marks
      (opening ∷ closing ∷ '[' ∷ ']' ∷ dot ∷ at ∷ comma ∷ '/' ∷ '|' ∷ '+' ∷ '-' ∷ '=' ∷ '<' ∷ '>' ∷ []) unknown (b ∷ []) refl)

  star_other : (b : ℕ) (due : Bool) → eqb b 42 ≡ true → NoNumber (mark_class b due)
  unfolding mark_class code
  star_other b due e = rw e (choice NoNumber due (λ _. refl) (λ _. refl))

  punctuation_whole : (due : Bool) → i < length text → Whole text i (punctuation text i due)
  unfolding punctuation
  punctuation_whole due h =
      choice (Whole text i) (eqb (pair_class (byte text i) (byte text (i + 1))) (code unknown))
      (λ _. by (eqb (byte text i) 42) refl)
      (λ _. mark_whole _ (pair_other (byte text i) (byte text (i + 1))))
    where
      by : (b : Bool) → eqb (byte text i) 42 ≡ b → Whole text i (X.token (mark_class (byte text i) due) (i + 1))
      by true e = record { number = never (star_other (byte text i) due e); word = λ _. omega (arith, star_whole h e) }
      by false e = mark_whole _ (mark_other (byte text i) due e)

  lexeme_whole : (due : Bool) → i < length text → Whole text i (lexeme text i due)
  unfolding lexeme code
  lexeme_whole due h =
      choice (Whole text i) (number_at text i) (λ _. record { number = λ _. refl; word = λ e. never refl e }) (λ _.
      choice (Whole text i) (quote_at text i) (λ _. quoted_whole (byte text i)) (λ _.
      choice (Whole text i) (letter_at text i) (λ _. named_whole due) (λ _.
      choice (Whole text i) (variable_at text i) (λ _. mark_whole _ refl) (λ _.
      punctuation_whole due h))))

-- ---- the bytes of a token

-- token k of a text; `unknown` behind the last one
abbrev pub token_at : Source → ℕ → Placed
token_at s k = get_or s.tokens k (placed unknown 0 0)

-- its bytes, from the first to the last
unfoldable pub spelling : Source → ℕ → List ℕ
spelling s k = between s.text (X.place (token_at s k)) (X.end (token_at s k))

-- the word in front of some bytes
unfoldable pub word_in : List ℕ → List ℕ
word_in w = take (name_end (spaced w []) 0) w

-- a word that ends within the bytes from i to before e is the one in front of them
word_within : (text : List ℕ) (i e : ℕ) → i ≤ e → e ≤ length text → name_end text i ≤ e → word_at text i ≡ word_in (between text i e)
unfolding word_at word_in
word_within text i e h k n =
    let v : List ℕ = drop i text in
    let w : List ℕ = between text i e in
    let x : List ℕ = drop (e - i) v in
    let whole : w ++ x ≡ v = take-append-drop (e - i) v in
    let m : Meets text v i i 0 = record { apart = omega arith; alike = refl } in
    let shift : name_end text i ≡ i + name_end v 0 = (meets_name m).apart in
    let size : length w ≡ e - i = omega (arith, length-take (e - i) v, length-drop i text) in
    let ends : name_end (w ++ x) 0 ≤ length w = rw whole (omega arith) in
    let cut : name_end (spaced w []) 0 ≡ name_end (w ++ x) 0 = name_same w x [] 0 ends in
    let long : name_end text i - i ≡ name_end (w ++ x) 0 = rw whole (omega arith) in
    rw (cut, long) (ap (take (name_end (w ++ x) 0)) (sym whole) ∙ take-append-le (name_end (w ++ x) 0) w x ends)

-- and a byte within them is theirs
first_within : (text : List ℕ) (i e : ℕ) → i < e → byte text i ≡ byte (between text i e) 0
first_within text i e h =
    let z : i + 0 ≡ i = omega arith in
    ap (byte text) (sym z) ∙ (sym (get_or-drop i text 0 0) ∙ sym (get_or-take (e - i) (drop i text) 0 0 (omega arith)))

module _ (text list : List ℕ) (k : ℕ) (t : Token) (here : get_or (classes_of text) k unknown ≡ t) (known : t ≡ unknown → ⊥) where
  there_is : k < length (tokens text)
  there_is =
      ⊎_elim (λ l. l)
      (λ l. absurd (known (sym here ∙ get_or-eq_default (classes_of text) unknown (omega (arith, classes_length text)))))
      (lt_or_ge k (length (tokens text)))

  token_met : Met text k
  token_met = met text k there_is

  -- its first byte, and the byte behind it
  abbrev from : ℕ
  from = token_met.begin

  abbrev to : ℕ
  to = (lexeme text from token_met.due).end

  its_class : (lexeme text from token_met.due).kind ≡ code t
  its_class =
      let m : Met text k = token_met in
      let same_class : class_of m.kind ≡ t = sym (cut_class m.cut m.stands unknown) ∙ here in
      lexeme_code text m.begin m.due ∙ (ap (λ (n : ℕ). code (class_of n)) (sym m.stands.kind_is) ∙ ap code same_class)

  its_bytes : spelling (source text list) k ≡ between text from to
  unfolding spelling source
  its_bytes = let m : Met text k = token_met in rw (cut_token m.cut m.stands (placed unknown 0 0), m.stands.behind_is)

  its_place : place (source text list) k ≡ from
  its_place = cut_place token_met.cut token_met.stands list

  its_end : (from < to) × (to ≤ length text)
  its_end =
      lexeme_takes text from token_met.due token_met.stands.inside
      (λ u. known (sym (class_of_code t) ∙ (ap class_of (sym its_class ∙ u) ∙ class_of_code unknown)))

  its_whole : Whole text from (lexeme text from token_met.due)
  its_whole = lexeme_whole text from token_met.due token_met.stands.inside

  -- a number is its token's bytes
  pub number_spelled : is_number_class (code t) ≡ true → L.number_at text (place (source text list) k) ≡ spelling (source text list) k
  unfolding L.number_at
  number_spelled c =
      let ends : to ≡ number_end text from = its_whole.number (rw its_class c) in
      rw (its_place, its_bytes) (ap (between text from) (sym ends))

  -- a word is the one in front of its token's bytes, and `*` is their first
  pub word_spelled : is_word_class (code t) ≡ true → word_at text (place (source text list) k) ≡ word_in (spelling (source text list) k)
  word_spelled c =
      rw (its_place, its_bytes)
      (word_within text from to (omega (arith, its_end.0)) its_end.1 (its_whole.word (rw its_class c)))

  pub star_spelled : is_star text (place (source text list) k) ≡ is_star (spelling (source text list) k) 0
  unfolding is_star
  star_spelled = rw (its_place, its_bytes) (ap (λ (b : ℕ). eqb b 42) (first_within text from to its_end.0))

-- Where the survey finds nothing each token is without a fault of its own: names are known and numbers short. The fault that was found never
-- becomes less urgent, and a token's own fault is among what is found behind it.
-- Assumes nothing.
use Prim.Native.Nat.{ℕ, suc, ◌≤◌, ◌<◌, max}
use mathlib.Core.Path.{◌≡◌, refl, sym, ◌∙◌, ap, subst}
use mathlib.Core.Bool.{Bool, true, false, ◌&&◌, not, cond}
use mathlib.Core.List.{List, [], ◌∷◌, ◌++◌}
use mathlib.Core.Logic.{⊎_elim}
use native.Mathlib.Omega.{arith}
use native.Mathlib.Nat.{le_trans}
use lib.Dec.{eqb}
use borrow.Author.Tests.{lt-ltb}
use Rattle.meaning.proofs.Bools.{lt_or_ge}
use lib.ListN.{length, get_or, take, drop, take-append-drop}
use lib.Seq.{length-take-le, drop-cons}
use Rattle.names.specs.Names.{is_named, names_of}
use Rattle.text.specs.declared.Level.{Level}
use Rattle.text.specs.declared.Sort.{Sort}
use Rattle.text.specs.Grammar.{Token, opening, closing, '[', ']', dot, dots, at, comma, '::', NameTest, NodeType, 'processing_instruction', FunctionName, AxisName, Literal, Number, VariableReference, '/', '//', '|', '+', '-', '=', '!=', '<', '<=', '>', '>=', MultiplyOperator, 'and', 'or', 'div', 'mod', unknown, Sentence}
use Rattle.text.specs.Machine.{Mode, has, signing, ending, continuing, call, target, argument}
use Rattle.text.specs.Tokens.{classes_of}
use Rattle.text.specs.Growing.{syntax_of}
use Rattle.text.specs.Syntax.{read_all, past}
use Rattle.text.specs.Limited.{Source, source, place, word_of, is_star, has_prefix, number_at, digits, most_digits, name_faults, digit_faults, text_faults}
use Rattle.text.specs.Survey.{urgency, worst, noted, operator_faults, sign_faults, end_faults, Survey, survey, begins, step_read, operand_read, slash_read, bracket_read, opening_read, left, closing_read, comma_read, bar_read, operator_read, minus_read, string_read, name_read, survey_token, unread, finished, surveyed}
use Rattle.text.proofs.Scheme.{read_append}
use Rattle.text.proofs.Cutting.{classes_length, place_inside, source_ascends}
use Rattle.text.proofs.Surveying.Least.{past_length}
use Rattle.text.proofs.Surveying.Survey.{survey_right}

abbrev found_in : Survey → ℕ
found_in (survey m l ls v n found) = found

-- ---- what was found is never less urgent

module _ (s : Source) where
  noted_grows : (b : Bool) (p found : ℕ) → found ≤ noted s b p found
  unfolding noted
  noted_grows true p found = omega arith
  noted_grows false p found = omega arith

  operator_grows : (k : ℕ) (l : Level) (v : Sort) (found : ℕ) → found ≤ operator_faults (noted s) k l v found
  unfolding operator_faults
  operator_grows k l v found =
      le_trans (noted_grows _ _ _) (le_trans (noted_grows _ _ _) (le_trans (noted_grows _ _ _) (noted_grows _ _ _)))

  end_grows : (l : Level) (v : Sort) (found : ℕ) → found ≤ end_faults (noted s) l v found
  unfolding end_faults
  end_grows l v found = le_trans (noted_grows _ _ _) (noted_grows _ _ _)

  -- one side or the other
  either : (found : ℕ) (b : Bool) (x y : Survey) → found ≤ found_in x → found ≤ found_in y → found ≤ found_in (cond b x y)
  either found true x y h k = h
  either found false x y h k = k

  max_grows : (a b : ℕ) → b ≤ max a b
  max_grows a b = omega arith

  left_grows : (m' : Mode) (arity : ℕ) (y : Survey) → found_in y ≤ found_in (left m' arity s y)
  unfolding left
  left_grows m' arity (survey m l [] v n found) = omega arith
  left_grows m' arity (survey m l (o ∷ ls) v n found) = le_trans (by_arity (eqb arity 0)) (noted_grows _ _ _)
    where
      by_arity : (b : Bool) → found ≤ cond b found (end_faults (noted s) l v found)
      by_arity true = omega arith
      by_arity false = end_grows l v found

  token_grows : (y : Survey) (i : ℕ) (t : Token) → found_in y ≤ found_in (survey_token s y i t)
  unfolding survey_token step_read operand_read slash_read bracket_read opening_read closing_read comma_read bar_read operator_read minus_read string_read name_read sign_faults
  token_grows (survey m l ls v n found) i opening = either found (has (call ∷ []) m) _ _ (omega arith) (either found (begins m) _ _ (omega arith) (omega arith))
  token_grows (survey m l ls v n found) i closing =
      either found (has (argument ∷ []) m) _ _ (left_grows _ 0 (survey m l ls v n found))
      (either found (has ending m) _ _ (left_grows _ 1 (survey m l ls v n found)) (omega arith))
  token_grows (survey m l ls v n found) i '[' = either found l.inpath _ _ (omega arith) (noted_grows true l.m found)
  token_grows (survey m l ls v n found) i ']' = left_grows _ 1 (survey m l ls v n found)
  token_grows (survey m l ls v n found) i dot = max_grows _ found
  token_grows (survey m l ls v n found) i dots = max_grows _ found
  token_grows (survey m l ls v n found) i at = max_grows _ found
  token_grows (survey m l [] v n found) i comma = omega arith
  token_grows (survey m l (o ∷ ls) v n found) i comma = le_trans (end_grows l v found) (noted_grows true o.m _)
  token_grows (survey m l ls v n found) i '::' = max_grows _ found
  token_grows (survey m l ls v n found) i NameTest = max_grows _ found
  token_grows (survey m l ls v n found) i NodeType = max_grows _ found
  token_grows (survey m l ls v n found) i 'processing_instruction' = max_grows _ found
  token_grows (survey m l ls v n found) i FunctionName = omega arith
  token_grows (survey m l ls v n found) i AxisName = max_grows _ found
  token_grows (survey m l ls v n found) i Literal = either found (has (target ∷ []) m) _ _ (noted_grows true n found) (noted_grows true (place s i) found)
  token_grows (survey m l ls v n found) i Number = max_grows _ found
  token_grows (survey m l ls v n found) i VariableReference = max_grows _ found
  token_grows (survey m l ls v n found) i '/' =
      either found (begins m) _ _ (omega arith) (either found (has continuing m && not l.inpath) _ _ (noted_grows true l.m found) (omega arith))
  token_grows (survey m l ls v n found) i '//' =
      either found (begins m) _ _ (omega arith) (either found (has continuing m && not l.inpath) _ _ (noted_grows true l.m found) (omega arith))
  token_grows (survey m l ls v n found) i '|' = noted_grows (not l.joined) l.m found
  token_grows (survey m l ls v n found) i '-' = either found (has signing m) _ _ (noted_grows _ l.e found) (operator_grows 5 l v found)
  token_grows (survey m l ls v n found) i '+' = operator_grows _ l v found
  token_grows (survey m l ls v n found) i '=' = operator_grows _ l v found
  token_grows (survey m l ls v n found) i '!=' = operator_grows _ l v found
  token_grows (survey m l ls v n found) i '<' = operator_grows _ l v found
  token_grows (survey m l ls v n found) i '<=' = operator_grows _ l v found
  token_grows (survey m l ls v n found) i '>' = operator_grows _ l v found
  token_grows (survey m l ls v n found) i '>=' = operator_grows _ l v found
  token_grows (survey m l ls v n found) i MultiplyOperator = operator_grows _ l v found
  token_grows (survey m l ls v n found) i 'and' = operator_grows _ l v found
  token_grows (survey m l ls v n found) i 'or' = operator_grows _ l v found
  token_grows (survey m l ls v n found) i 'div' = operator_grows _ l v found
  token_grows (survey m l ls v n found) i 'mod' = operator_grows _ l v found
  token_grows (survey m l ls v n found) i unknown = omega arith

  text_grows : (ts : List Token) (y : Survey) (i : ℕ) → found_in y ≤ found_in (read_all (survey_token s) y i ts)
  unfolding read_all
  text_grows [] y i = omega arith
  text_grows (t ∷ ts) y i = le_trans (token_grows y i t) (text_grows ts (survey_token s y i t) (suc i))

  finished_grows : (y : Survey) → found_in y ≤ finished s y
  unfolding finished
  finished_grows (survey m l ls v n found) = end_grows l v found

  -- what is found behind a token is found in all
  behind_token :
      (us vs : List Token) (t : Token) → found_in (survey_token s (read_all (survey_token s) (unread s) 0 us) (past 0 us) t) ≤ surveyed s (us ++ (t ∷ vs))
  unfolding surveyed read_all
  behind_token us vs t =
      let y : Survey = read_all (survey_token s) (unread s) 0 us in
      subst (λ (z : Survey). found_in (survey_token s y (past 0 us) t) ≤ finished s z) (sym (read_append (survey_token s) us (t ∷ vs) (unread s) 0))
      (le_trans (text_grows vs (survey_token s y (past 0 us) t) (suc (past 0 us))) (finished_grows _))

  name_found : (y : Survey) (i : ℕ) → worst s (name_faults s i) ≤ found_in (survey_token s y i NameTest)
  unfolding survey_token step_read
  name_found (survey m l ls v n found) i = omega arith

  number_found : (y : Survey) (i : ℕ) → worst s (digit_faults s i) ≤ found_in (survey_token s y i Number)
  unfolding survey_token operand_read
  number_found (survey m l ls v n found) i = omega arith

-- ---- texts without faults

module _ (text list : List ℕ) (d : Sentence (classes_of text)) (clean : text_faults (source text list) (syntax_of (classes_of text)) ≡ []) where
  nothing : surveyed (source text list) (classes_of text) ≡ 0
  unfolding worst
  nothing = survey_right (source text list) (source_ascends text list) (classes_of text) d ∙ ap (worst (source text list)) clean

  module _ (k : ℕ) (h : k < length (classes_of text)) where
    abbrev before : List Token
    before = take k (classes_of text)

    number_of : past 0 before ≡ k
    number_of = let e = past_length before 0 in omega (arith, e, length-take-le k (classes_of text) (omega arith))

    split : before ++ (get_or (classes_of text) k unknown ∷ drop (suc k) (classes_of text)) ≡ classes_of text
    split = ap (λ (l : List Token). before ++ l) (sym (drop-cons (classes_of text) k unknown h)) ∙ take-append-drop k (classes_of text)

    -- what is found behind the token is nothing
    found_none :
        (t : Token) → get_or (classes_of text) k unknown ≡ t
        → found_in (survey_token (source text list) (read_all (survey_token (source text list)) (unread (source text list)) 0 before) k t) ≡ 0
    found_none t e =
        let y : Survey = read_all (survey_token (source text list)) (unread (source text list)) 0 before in
        let all : found_in (survey_token (source text list) y (past 0 before) t) ≤ surveyed (source text list) (classes_of text) =
        subst (λ (l : List Token). found_in (survey_token (source text list) y (past 0 before) t) ≤ surveyed (source text list) l)
        (ap (λ (u : Token). before ++ (u ∷ drop (suc k) (classes_of text))) (sym e) ∙ split)
        (behind_token (source text list) before (drop (suc k) (classes_of text)) t) in
        let here : found_in (survey_token (source text list) y k t) ≤ surveyed (source text list) (classes_of text) =
        subst (λ (n : ℕ). found_in (survey_token (source text list) y n t) ≤ surveyed (source text list) (classes_of text)) number_of all in
        omega (arith, here, nothing)

    within : place (source text list) k ≤ length text
    within = let e = place_inside text list k (omega (arith, h, classes_length text)) in omega (arith, e)

    -- a name that is not `*` has no prefix and is in the list
    pub name_known :
        get_or (classes_of text) k unknown ≡ NameTest → is_star text (place (source text list) k) ≡ false
        → (has_prefix text (place (source text list) k) ≡ false) × (is_named (names_of list) (word_of (source text list) k) ≡ true)
    unfolding name_faults worst urgency source
    name_known e star =
        let none : worst (source text list) (name_faults (source text list) k) ≡ 0 =
        (let a = name_found (source text list) (read_all (survey_token (source text list)) (unread (source text list)) 0 before) k in
        omega (arith, a, found_none NameTest e)) in
        decide (has_prefix text (place (source text list) k)) (is_named (names_of list) (word_of (source text list) k)) refl refl none
      where
        decide :
            (p q : Bool) → has_prefix text (place (source text list) k) ≡ p → is_named (names_of list) (word_of (source text list) k) ≡ q
            → worst (source text list) (name_faults (source text list) k) ≡ 0
            → (has_prefix text (place (source text list) k) ≡ false) × (is_named (names_of list) (word_of (source text list) k) ≡ true)
        decide false true a b z = (a, b)
        decide true q a b z =
            let y : max (urgency (source text list) 26 (place (source text list) k)) 0 ≡ 0 = rw (star, a) at z in
            absurd (omega (arith, y, within))
        decide false false a b z =
            let y : max (urgency (source text list) 24 (place (source text list) k)) 0 ≡ 0 = rw (star, a, b) at z in
            absurd (omega (arith, y, within))

    -- a number has at most 15 digits
    pub number_short : get_or (classes_of text) k unknown ≡ Number → length (digits (number_at text (place (source text list) k))) ≤ most_digits
    unfolding digit_faults worst urgency source
    number_short e =
        let count : ℕ = length (digits (number_at text (place (source text list) k))) in
        let none : worst (source text list) (digit_faults (source text list) k) ≡ 0 =
        (let a = number_found (source text list) (read_all (survey_token (source text list)) (unread (source text list)) 0 before) k in
        omega (arith, a, found_none Number e)) in
        ⊎_elim
        (λ (l : most_digits < count).
        let y : max (urgency (source text list) 25 (place (source text list) k)) 0 ≡ 0 = rw (lt-ltb most_digits count l) at none in
        absurd (omega (arith, y, within)))
        (λ (l : count ≤ most_digits). l)
        (lt_or_ge most_digits count)

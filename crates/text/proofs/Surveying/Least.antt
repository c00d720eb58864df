-- The least fault and the most urgent one are the same, and its urgency tells its number and its byte; every fault of a text has a number
-- from 24 to 26 and a byte of the text, or the byte behind it.
-- Assumes nothing.
use Rattle.text.specs.declared.Run.TheVariants.{Spaces}
use Rattle.text.specs.declared.Function.{Function}
use Rattle.text.specs.declared.Function.TheVariants.{PositionCall, LastCall, CountCall, NotCall, BooleanCall, OtherCall}
use Prim.Native.Nat.{ℕ, zero, suc, ◌+◌, ◌*◌, ◌≤◌, ◌<◌, max}
use mathlib.Core.Path.{◌≡◌, refl, sym, ◌∙◌, ap, subst}
use mathlib.Core.Bool.{Bool, true, false, ◌&&◌, ◌||◌, cond}
use mathlib.Core.List.{List, [], ◌∷◌, ◌++◌}
use native.Mathlib.Nat.{max-eq_left, max-eq_right, max-zero}
use native.Mathlib.Omega.{arith}
use lib.ListN.{length, get_or, length-map}
use lib.Dec.{eqb, ltb, leb}
use borrow.Author.Tests.{ltb-true, ltb-false, leb-true, leb-false, eqb-true, eqb-false}
use Rattle.names.specs.Names.{is_named}
use Rattle.text.specs.Grammar.{Token, unknown, Symbol, Derives, none, token, by, Sentence}
use Rattle.text.specs.Tokens.{Placed, tokens, tokens_from, classes_of, place_in, class, run_end, lexeme, code, operator_due}
use Rattle.text.specs.Tokens as Tokens
use Rattle.text.specs.Syntax.{Kind, word, number, string, variable, group, call, arguments, negative, binary, union, filter, onward, relative, absolute, chain, step, self, parent, axis, attribute, named, typed, instruction, target, predicates, Syntax, blank, part, begin, Reading, pass, makes, nth, made, which, readings, past, stand_for}
use Rattle.text.specs.Growing.{tightness, syntax_of}
use Rattle.text.specs.declared.Fault.{Fault}
use Rattle.text.specs.Limited.{Source, source, place, fault, sort, is_path, number_taken, path_taken, word_of, is_star, has_prefix, digits, number_at, most_digits, holds_axis, function_of, is_held_call, as_number, as_path, name_faults, digit_faults, argument_faults, own, faults, text_faults, before, least}
use Rattle.text.specs.Survey.{urgency, worst}
use Rattle.text.proofs.Scheme.{past_append}
use Rattle.text.proofs.Tree.{the_tree}
use Rattle.text.proofs.Surveying.Urgent.{max_assoc}

-- ---- the least fault

-- a fault's number is one of three, and its byte is in the text or right behind it
pub record InText (s : Source) (f : Fault) : Type 0 where
  pub from_24 : 24 ≤ f.number
  pub to_26 : f.number ≤ 26
  pub within : f.place ≤ length s.text

-- so of each
abbrev pub AllInText : Source → List Fault → Type 0
AllInText s [] = Unit {0}
AllInText s (f ∷ fs) = InText s f × AllInText s fs

-- what comes before is more urgent
ordered :
    (p q n m : ℕ) → n ≤ 26 → m ≤ 26 → (a b c : Bool) → ltb p q ≡ a → eqb p q ≡ b → leb n m ≡ c
    → cond (a || (b && c)) (32 * p + n ≤ 32 * q + m) (32 * q + m ≤ 32 * p + n)
ordered p q n m h k true b c x y z = let less : p < q = ltb-true p q x in omega arith
ordered p q n m h k false true true x y z =
    let same : p ≡ q = eqb-true p q y in
    let less : n ≤ m = leb-true n m z in
    omega arith
ordered p q n m h k false true false x y z =
    let same : p ≡ q = eqb-true p q y in
    let less : m < n = leb-false n m z in
    omega arith
ordered p q n m h k false false c x y z =
    let less : q ≤ p = ltb-false p q x in
    let other : p ≡ q → ⊥ = eqb-false p q y in
    omega arith

falls : (s : Source) (p q n m : ℕ) → 32 * p + n ≤ 32 * q + m → urgency s m q ≤ urgency s n p
unfolding urgency
falls s p q n m h = omega arith

first_urgent :
    (s : Source) (f g : Fault) (b : Bool)
    → cond b (32 * f.place + f.number ≤ 32 * g.place + g.number) (32 * g.place + g.number ≤ 32 * f.place + f.number)
    → max (urgency s f.number f.place) (urgency s g.number g.place) ≡ urgency s (cond b f g).number (cond b f g).place
first_urgent s f g true h = max-eq_left (falls s f.place g.place f.number g.number h)
first_urgent s f g false h = max-eq_right (falls s g.place f.place g.number f.number h)

in_either : (s : Source) (f g : Fault) (b : Bool) → InText s f → InText s g → InText s (cond b f g)
in_either s f g true h k = h
in_either s f g false h k = k

pub worst_least :
    (s : Source) (f : Fault) (fs : List Fault) → AllInText s (f ∷ fs)
    → worst s (f ∷ fs) ≡ urgency s (least f fs).number (least f fs).place
unfolding worst least
worst_least s f [] h = max-zero (urgency s f.number f.place)
worst_least s f (g ∷ gs) h =
    let earlier =
    ordered f.place g.place f.number g.number h.0.to_26 h.1.0.to_26
    (ltb f.place g.place) (eqb f.place g.place) (leb f.number g.number) refl refl refl in
    sym (max_assoc (urgency s f.number f.place) (urgency s g.number g.place) (worst s gs))
    ∙ (ap (λ (u : ℕ). max u (worst s gs)) (first_urgent s f g (before f g) earlier)
    ∙ worst_least s (cond (before f g) f g) gs (in_either s f g (before f g) h.0 h.1.0, h.1.1))

pub least_in_text : (s : Source) (f : Fault) (fs : List Fault) → AllInText s (f ∷ fs) → InText s (least f fs)
unfolding least
least_in_text s f [] h = h.0
least_in_text s f (g ∷ gs) h = least_in_text s (cond (before f g) f g) gs (in_either s f g (before f g) h.0 h.1.0, h.1.1)

-- urgency tells a fault from none, and from every other
pub urgency_positive : (s : Source) (f : Fault) → InText s f → 0 < urgency s f.number f.place
unfolding urgency
urgency_positive s f h = omega arith

pub urgency_tells :
    (s : Source) (f g : Fault) → InText s f → InText s g → urgency s f.number f.place ≡ urgency s g.number g.place
    → (f.number ≡ g.number) × (f.place ≡ g.place)
unfolding urgency
urgency_tells s f g hf hg e = (omega arith, omega arith)

-- ---- all faults

-- the tokens of a construct have numbers up to n
abbrev Upto : ℕ → Syntax → Type 0
Upto n blank = Unit {0}
Upto n (part k t i a b c) = (i ≤ n) × Upto n a × Upto n b × Upto n c

abbrev AllUpto : ℕ → List Syntax → Type 0
AllUpto n [] = Unit {0}
AllUpto n (x ∷ xs) = Upto n x × AllUpto n xs

past_up : (i : ℕ) (ts : List Token) → i ≤ past i ts
unfolding past
past_up i [] = omega arith
past_up i (t ∷ ts) = let further : suc i ≤ past (suc i) ts = past_up (suc i) ts in omega arith

nth_upto : (n : ℕ) (xs : List Syntax) (k : ℕ) → AllUpto n xs → Upto n (nth xs k)
nth_upto n [] k h = tt
nth_upto n (x ∷ xs) zero h = h.0
nth_upto n (x ∷ xs) (suc k) h = nth_upto n xs k h.1

made_upto : (n : ℕ) (r : Reading) (i : ℕ) (xs : List Syntax) → i ≤ n → AllUpto n xs → Upto n (made r i xs)
unfolding made
made_upto n (pass k) i xs h all = nth_upto n xs k all
made_upto n (makes k t a b c) i xs h all = (h, nth_upto n xs a all, nth_upto n xs b all, nth_upto n xs c all)

stand_upto : {s : List Symbol} {ts : List Token} (d : Derives s ts) (i n : ℕ) → past i ts ≤ n → AllUpto n (stand_for d i)
unfolding stand_for past
stand_upto none i n h = tt
stand_upto (token {ts = ts} d) i n h =
    let here : i ≤ n = omega (arith, past_up (suc i) ts) in
    ((here, tt, tt, tt), stand_upto d (suc i) n h)
stand_upto (by {n = name} {xs = xs} {ts = ts} a d e) i n h =
    let whole : past (past i xs) ts ≤ n = subst (λ (k : ℕ). k ≤ n) (past_append xs ts i) h in
    let inside : past i xs ≤ n = omega (arith, past_up (past i xs) ts) in
    let here : i ≤ n = omega (arith, past_up i xs) in (
      made_upto n (get_or (readings name) (which a) (pass 0)) i (stand_for d i) here (stand_upto d i n inside),
      stand_upto e
          (past i xs) n whole,
    )

-- the tokens with numbers up to n begin in the text, or right behind it
module _ (s : Source) (n : ℕ) (reach : (i : ℕ) → i ≤ n → place s i ≤ length s.text) where
  all_append : (l m : List Fault) → AllInText s l → AllInText s m → AllInText s (l ++ m)
  all_append [] m h k = k
  all_append (f ∷ l) m h k = (h.0, all_append l m h.1 k)

  all_either : (b : Bool) (l m : List Fault) → AllInText s l → AllInText s m → AllInText s (cond b l m)
  all_either true l m h k = h
  all_either false l m h k = k

  one_in_text : (k i : ℕ) → 24 ≤ k → k ≤ 26 → i ≤ n → AllInText s (fault s k i)
  one_in_text k i h g b = (record { from_24 = h; to_26 = g; within = reach i b }, tt)

  unheld : (i : ℕ) → i ≤ n → AllInText s (fault s 26 i)
  unheld i b = one_in_text 26 i (omega arith) (omega arith) b

  begin_upto : (x : Syntax) → Upto n x → begin x ≤ n
  unfolding begin
  begin_upto blank h = omega arith
  begin_upto (part k t i a b c) h = h.0

  number_in_text : (x : Syntax) → Upto n x → AllInText s (as_number s x)
  unfolding as_number
  number_in_text x h = all_either (number_taken (sort s x)) [] (fault s 26 (begin x)) tt (unheld (begin x) (begin_upto x h))

  path_in_text : (x : Syntax) → Upto n x → AllInText s (as_path s x)
  unfolding as_path
  path_in_text x h = all_either (path_taken (sort s x)) [] (fault s 26 (begin x)) tt (unheld (begin x) (begin_upto x h))

  argument_in_text : (f : Function) (x : Syntax) → Upto n x → AllInText s (argument_faults s f x)
  unfolding argument_faults
  argument_in_text PositionCall x h = tt
  argument_in_text LastCall x h = tt
  argument_in_text CountCall x h = path_in_text x h
  argument_in_text NotCall x h = tt
  argument_in_text BooleanCall x h = tt
  argument_in_text OtherCall x h = tt

  name_in_text : (i : ℕ) → i ≤ n → AllInText s (name_faults s i)
  unfolding name_faults
  name_in_text i b =
      all_either (is_star s.text (place s i)) [] _ tt
      (all_either (has_prefix s.text (place s i)) (fault s 26 i) _ (unheld i b)
      (all_either (is_named s.names (word_of s i)) [] (fault s 24 i) tt (one_in_text 24 i (omega arith) (omega arith) b)))

  digits_in_text : (i : ℕ) → i ≤ n → AllInText s (digit_faults s i)
  unfolding digit_faults
  digits_in_text i b =
      all_either (ltb most_digits (length (digits (number_at s.text (place s i))))) (fault s 25 i) []
      (one_in_text 25 i (omega arith) (omega arith) b) tt

  own_in_text : (k : Kind) (t : Token) (i : ℕ) (a c : Syntax) → i ≤ n → Upto n a → Upto n c → AllInText s (own s k t i a c)
  unfolding own
  own_in_text word t i a c b p q = tt
  own_in_text number t i a c b p q = digits_in_text i b
  own_in_text string t i a c b p q = unheld i b
  own_in_text variable t i a c b p q = unheld i b
  own_in_text group t i a c b p q = all_either (is_path (sort s c)) (fault s 26 i) [] (unheld i b) tt
  own_in_text call t i a c b p q =
      all_either (is_held_call s i c) (argument_faults s (function_of (word_of s i)) c) (fault s 26 i)
      (argument_in_text (function_of (word_of s i)) c q) (unheld i b)
  own_in_text arguments t i a c b p q = tt
  own_in_text negative t i a c b p q = number_in_text c q
  own_in_text binary t i a c b p q =
      all_either (leb 3 (tightness t)) (as_number s a ++ as_number s c) []
      (all_append (as_number s a) (as_number s c) (number_in_text a p) (number_in_text c q)) tt
  own_in_text union t i a c b p q = unheld i b
  own_in_text filter t i a c b p q = unheld i b
  own_in_text onward t i a c b p q = unheld i b
  own_in_text relative t i a c b p q = tt
  own_in_text absolute t i a c b p q = tt
  own_in_text chain t i a c b p q = tt
  own_in_text step t i a c b p q = tt
  own_in_text self t i a c b p q = tt
  own_in_text parent t i a c b p q = tt
  own_in_text axis t i a c b p q = all_either (holds_axis (word_of s i)) [] (fault s 26 i) tt (unheld i b)
  own_in_text attribute t i a c b p q = tt
  own_in_text named t i a c b p q = name_in_text i b
  own_in_text typed t i a c b p q = tt
  own_in_text instruction t i a c b p q = tt
  own_in_text target t i a c b p q = unheld i b
  own_in_text predicates t i a c b p q = tt

  all_in_text : (x : Syntax) → Upto n x → AllInText s (faults s x)
  unfolding faults
  all_in_text blank h = tt
  all_in_text (part k t i a b c) h =
      all_append (own s k t i a c) (faults s a ++ (faults s b ++ faults s c)) (own_in_text k t i a c h.0 h.1 h.3)
      (all_append (faults s a) (faults s b ++ faults s c) (all_in_text a h.1)
      (all_append (faults s b) (faults s c) (all_in_text b h.2) (all_in_text c h.3)))

  text_in_text : (x : Syntax) → Upto n x → AllInText s (text_faults s x)
  unfolding text_faults
  text_in_text x h = all_append (as_path s x) (faults s x) (path_in_text x h) (all_in_text x h)

-- tokens begin in the text
abbrev Inside : ℕ → List Placed → Type 0
Inside n [] = Unit {0}
Inside n (t ∷ ts) = (Tokens.place t < n) × Inside n ts

inside_either : (n : ℕ) (b : Bool) (l m : List Placed) → (b ≡ true → Inside n l) → Inside n m → Inside n (cond b l m)
inside_either n true l m h k = h refl
inside_either n false l m h k = k

tokens_inside : (fuel : ℕ) (text : List ℕ) (i : ℕ) (due : Bool) → Inside (length text) (tokens_from fuel text i due)
unfolding tokens_from
tokens_inside zero text i due = tt
tokens_inside (suc fuel) text i due =
    inside_either (length text) (ltb (run_end Spaces text i) (length text)) _ []
    (λ e. (
      ltb-true (run_end Spaces text i) (length text) e,
      inside_either (length text) (eqb (lexeme text (run_end Spaces text i) due).kind (code unknown)) [] _ (λ q. tt)
          (tokens_inside fuel text (lexeme text (run_end Spaces text i) due).end (operator_due (lexeme text (run_end Spaces text i) due).kind)),
    ))
    tt

place_inside : (ts : List Placed) (n i : ℕ) → Inside n ts → i ≤ length ts → place_in ts n i ≤ n
unfolding place_in
place_inside [] n i h b = omega arith
place_inside (t ∷ ts) n zero h b = omega (arith, h.0)
place_inside (t ∷ ts) n (suc i) h b = place_inside ts n i h.1 (omega arith)

pub past_length : (ts : List Token) (i : ℕ) → past i ts ≡ i + length ts
unfolding past
past_length [] i = omega arith
past_length (t ∷ ts) i = past_length ts (suc i) ∙ omega arith

tree_upto : (ts : List Token) → Sentence ts → Upto (length ts) (syntax_of ts)
tree_upto ts d =
    let numbers : past 0 ts ≤ length ts = omega (arith, past_length ts 0) in
    let all : AllUpto (length ts) (syntax_of ts ∷ []) = subst (AllUpto (length ts)) (the_tree ts d) (stand_upto d 0 (length ts) numbers) in
    all.0

-- every fault of a text of the grammar
pub faults_in_text :
    (text list : List ℕ) → Sentence (classes_of text)
    → AllInText (source text list) (text_faults (source text list) (syntax_of (classes_of text)))
unfolding source classes_of tokens
faults_in_text text list d =
    text_in_text (source text list) (length (tokens text))
    (λ i b. place_inside (tokens text) (length text) i (tokens_inside (length text) text 0 false) b)
    (syntax_of (classes_of text))
    (subst (λ (n : ℕ). Upto n (syntax_of (classes_of text))) (length-map (tokens text) class) (tree_upto (classes_of text) d))

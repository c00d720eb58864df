-- Words by their numbers: what is read off a token's bytes is what the machine reads off the token, where the text is plain.
-- Assumes nothing.
use Prim.Native.Nat.{ℕ, suc, ◌+◌, ◌<◌, ◌≤◌}
use native.Mathlib.Omega.{arith}
use mathlib.Core.Path.{◌≡◌, refl, sym, ◌∙◌, ap}
use mathlib.Core.Bool.{Bool, true, false, cond}
use mathlib.Core.List.{List, [], ◌∷◌}
use lib.ListN.{length, get_or}
use Rattle.std.specs.Prelude.{Some, None}
use Rattle.std.specs.Option.{unwrap_or}
use borrow.Author.Tests.{ne_eqb}
use Rattle.names.specs.Names.{same, position, is_named, number_of, names_of, bad_names}
use Rattle.names.proofs.Accepted.{number_at_most}
use Rattle.text.specs.Grammar.{NameTest, Number, unknown}
use Rattle.text.specs.Tokens.{code, class_of, between, name_end, lexeme, classes_of}
use Rattle.text.specs.Limited.{source, place, word_at, word_of, function_names, held_axes, axis_number, is_star, has_prefix, number_at, digits}
use Rattle.text.specs.Reading.{name_number, type_number}
use Rattle.text.proofs.Lexemes.{lexeme_takes}
use Rattle.text.proofs.Cutting.{Cut, Stands, cut_count, cut_class, cut_place}
use Rattle.compose.specs.Standing.{word_number}
use Rattle.compose.specs.Words.{Plain, Spelled}
use Rattle.compose.proofs.Ends.{is_word, Ends, lexeme_ends}

-- ---- bounds

pub position_most : (vs : List (List ℕ)) (w : List ℕ) → position vs w ≤ length vs
unfolding position
position_most [] w = omega arith
position_most (v ∷ vs) w = by (same v w) (position_most vs w)
  where
    by : (t : Bool) → position vs w ≤ length vs → cond t 0 (suc (position vs w)) ≤ suc (length vs)
    by true h = omega arith
    by false h = omega arith

pub axis_most : (w : List ℕ) → axis_number w ≤ 12
unfolding axis_number
axis_most w = position_most held_axes w

pub type_most : (w : List ℕ) → type_number w ≤ 4
unfolding type_number
type_most w = position_most _ w

pub function_most : (w : List ℕ) → position function_names w ≤ 5
function_most w = position_most function_names w

pub name_most : (names : List (List ℕ)) (w : List ℕ) → bad_names names ≡ false → cond (is_named names w) (number_of names w) 0 ≤ 65535
name_most names w f = by (is_named names w) refl
  where
    by : (t : Bool) → is_named names w ≡ t → cond t (number_of names w) 0 ≤ 65535
    by true e = number_at_most names f w e
    by false e = omega arith

pub number_or_none : (b : Bool) (n : ℕ) → unwrap_or (cond b (Some n) None) 0 ≡ cond b n 0
number_or_none true n = refl
number_or_none false n = refl

-- ---- the number of a token

module _ (text list : List ℕ) (i begin : ℕ) (p : place (source text list) i ≡ begin) where
  word_is : (end : ℕ) → end ≡ name_end text begin → between text begin end ≡ word_of (source text list) i
  unfolding source word_at
  word_is end e = rw (e, p)

  module _ (kind : ℕ) where
    pub number_at_lem : kind ≡ 6 → 11 ≡ word_number (source text list) i kind
    unfolding word_number code
    number_at_lem e = rw e

    pub number_instruction : kind ≡ 11 → 4 ≡ word_number (source text list) i kind
    unfolding word_number code
    number_instruction e = rw e

    pub number_type : (r end : ℕ) → kind ≡ 10 → end ≡ name_end text begin → r ≡ type_number (between text begin end) → r ≡ word_number
        (source text list) i kind
    unfolding word_number code
    number_type r end e f k = rw e (k ∙ ap type_number (word_is end f))

    pub number_call :
        (r end : ℕ) → kind ≡ 12 → end ≡ name_end text begin → r ≡ position function_names (between text begin end) → r ≡ word_number
        (source text list) i kind
    unfolding word_number code
    number_call r end e f k = rw e (k ∙ ap (position function_names) (word_is end f))

    pub number_axis : (r end : ℕ) → kind ≡ 13 → end ≡ name_end text begin → r ≡ axis_number (between text begin end) → r ≡ word_number
        (source text list) i kind
    unfolding word_number code
    number_axis r end e f k = rw e (k ∙ ap axis_number (word_is end f))

    pub number_name :
        (r end : ℕ) → kind ≡ 9 → (is_star text begin ≡ false → end ≡ name_end text begin)
        → r ≡ cond (is_star text begin) 1 (16 + number_of (names_of list) (between text begin end)) → r ≡ word_number (source text list) i kind
    unfolding word_number code name_number source
    number_name r end e f k = rw (e, p) (k ∙ by (is_star text begin) refl)
      where
        by :
            (t : Bool) → is_star text begin ≡ t
            → cond t 1 (16 + number_of (names_of list) (between text begin end)) ≡ cond t 1 (16 + number_of (names_of list) (word_at text begin))
        by true s = refl
        by false s = ap (λ (w : List ℕ). 16 + number_of (names_of list) w) (word_is end (f s) ∙ ap (word_at text) p)

    pub number_none :
        (kind ≡ 6 → ⊥) → (kind ≡ 9 → ⊥) → (kind ≡ 10 → ⊥) → (kind ≡ 11 → ⊥) → (kind ≡ 12 → ⊥) → (kind ≡ 13 → ⊥)
        → 0 ≡ word_number (source text list) i kind
    unfolding word_number code
    number_none a b c d e f = rw (ne_eqb kind 6 a, ne_eqb kind 9 b, ne_eqb kind 10 c, ne_eqb kind 11 d, ne_eqb kind 12 e, ne_eqb kind 13 f)

-- ---- tokens of a plain text

module _ {text list : List ℕ} (plain : Plain text list) {k i : ℕ} {due : Bool} {kind begin behind : ℕ} (c : Cut text k i due)
    (n : Stands text i due kind begin behind) (known : kind < 33) where
  ends : Ends text begin (lexeme text begin due)
  ends = lexeme_ends text begin due

  word_behind : is_word kind ≡ true → behind ≡ name_end text begin
  word_behind e = n.behind_is ∙ ends.word_ends (ap is_word (sym n.kind_is) ∙ e)

  pub spelled : Spelled text list kind begin behind
  unfolding is_word code
  spelled =
      let takes = lexeme_takes text begin due n.inside (λ e. omega (arith, n.kind_is)) in
      let there = cut_place c n list in
      record {
        ordered = omega (arith, takes.0, n.behind_is);
        within = omega (arith, takes.1, n.behind_is);
        test_ends = λ e s.
            let is-test : get_or (classes_of text) k unknown ≡ NameTest = cut_class c n unknown ∙ ap class_of e in
            let named = plain.named k (cut_count c n) is-test (ap (is_star text) there ∙ s) in
            let end : behind ≡ name_end text begin =
            n.behind_is ∙ ends.test_ends (sym n.kind_is ∙ e) s (ap (has_prefix text) (sym there) ∙ named.0) in
            (end, ap (is_named (names_of list)) (word_is text list k begin there behind end) ∙ named.1);
        type_ends = λ e. word_behind (rw e);
        call_ends = λ e. word_behind (rw e);
        axis_ends = λ e. word_behind (rw e);
        number_ends = λ e.
            let is_number : get_or (classes_of text) k unknown ≡ Number = cut_class c n unknown ∙ ap class_of e in (
              n.behind_is ∙ ends.number_ends (sym n.kind_is ∙ e),
              omega (arith, plain.short k (cut_count c n) is_number, ap (λ (p : ℕ). length (digits (number_at text p))) there),
            );
      }

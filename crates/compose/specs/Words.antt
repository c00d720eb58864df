-- What the code needs of a text without faults: names stand in the list, and numbers have few digits.
-- Assumes nothing: these are definitions.
use Rattle.std.specs.Prelude.{ℕ, ◌≤◌, ◌<◌, ◌≡◌, true, false, List, length, get_or}
use Rattle.names.specs.Names.{is_named, names_of}
use Rattle.text.specs.Grammar.{NameTest, Number, unknown}
use Rattle.text.specs.Tokens.{between, name_end, number_end, tokens, classes_of}
use Rattle.text.specs.Limited.{source, place, word_of, is_star, has_prefix, number_at, digits, most_digits}

-- a name test that is no `*` has no prefix and stands in the list; a number has at most 15 digits
pub record Plain (text list : List ℕ) : Type 0 where
  pub named :
      (k : ℕ) → k < length (tokens text) → get_or (classes_of text) k unknown ≡ NameTest → is_star text (place (source text list) k) ≡ false
      → (has_prefix text (place (source text list) k) ≡ false) × (is_named (names_of list) (word_of (source text list) k) ≡ true)
  pub short :
      (k : ℕ) → k < length (tokens text) → get_or (classes_of text) k unknown ≡ Number
      → length (digits (number_at text (place (source text list) k))) ≤ most_digits

-- the same of one token, from its first byte to the byte behind it: a name's end is the token's, and so is a number's
pub record Spelled (text list : List ℕ) (kind begin end : ℕ) : Type 0 where
  pub ordered : begin ≤ end
  pub within : end ≤ length text
  pub test_ends : kind ≡ 9 → is_star text begin ≡ false → (end ≡ name_end text begin) ×
      (is_named (names_of list) (between text begin end) ≡ true)
  pub type_ends : kind ≡ 10 → end ≡ name_end text begin
  pub call_ends : kind ≡ 12 → end ≡ name_end text begin
  pub axis_ends : kind ≡ 13 → end ≡ name_end text begin
  pub number_ends : kind ≡ 15 → (end ≡ number_end text begin) × (length (digits (number_at text begin)) ≤ most_digits)

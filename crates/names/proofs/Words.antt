-- Laws of words: equality byte by byte is equality, and each test of a word, its hash and its first line go on by one byte.
-- Assumes nothing.
use Prim.Native.Nat.{ℕ, suc, ◌+◌, ◌-◌, ◌*◌, ◌%◌, ◌<◌, ◌≤◌}
use native.Mathlib.Omega.{arith}
use native.Mathlib.Numerals.{add-one}
use mathlib.Core.Path.{◌≡◌, refl, sym}
use mathlib.Core.Bool.{Bool, true, false, ◌&&◌, not, cond, true≢false}
use mathlib.Core.List.{List, [], ◌∷◌}
use lib.ListN.{length, get_or, take, drop, length-drop, drop_of_length-le}
use lib.Seq.{drop-cons, take_all}
use lib.Dec.{eqb, ltb}
use lib.Pointwise.{pointwise}
use borrow.Author.Tests.{eqb-true, eq-eqb, ltb-false}
use Rattle.std.specs.Prelude.{Some, None}
use Rattle.std.specs.Option.{unwrap_or}
use Rattle.std.specs.List.{list_all, position_or_len}
use Rattle.names.specs.Names.{is_letter, is_name_byte, all_name_bytes, good_name, same}
use Rattle.names.specs.Index.{line_length, hash_from}

-- ---- words that are the same

pub same_itself : (w : List ℕ) → same w w ≡ true
unfolding same
same_itself [] = refl
same_itself (b ∷ w) = rw (eq-eqb b b refl) (same_itself w)

pub same_equal : (v w : List ℕ) → same v w ≡ true → v ≡ w
unfolding same
same_equal [] [] e = refl
same_equal [] (c ∷ w) e = absurd (true≢false (sym e))
same_equal (b ∷ v) [] e = absurd (true≢false (sym e))
same_equal (b ∷ v) (c ∷ w) e = by (eqb b c) refl e (same_equal v w)
  where
    by : (t : Bool) → eqb b c ≡ t → (t && same v w) ≡ true → (same v w ≡ true → v ≡ w) → b ∷ v ≡ c ∷ w
    by true p q more = let f : b ≡ c = eqb-true b c p in let r : v ≡ w = more q in cc
    by false p q more = absurd (true≢false (sym q))

-- so says the library's equality of slices
pub by_bytes : (v w : List ℕ) → pointwise eqb v w ≡ same v w
unfolding same
by_bytes [] [] = refl
by_bytes [] (c ∷ w) = refl
by_bytes (b ∷ v) [] = refl
by_bytes (b ∷ v) (c ∷ w) = rw (by_bytes v w)

-- words that differ are not the same
pub differ : (v w : List ℕ) → (v ≡ w → ⊥) → same v w ≡ false
differ v w d = by (same v w) refl
  where
    by : (t : Bool) → same v w ≡ t → same v w ≡ false
    by true e = absurd (d (same_equal v w e))
    by false e = e

-- ---- one byte more

-- what a slice is from an index on
pub rest : (s : List ℕ) (i : ℕ) → take (length s - i) (drop i s) ≡ drop i s
rest s i = take_all (length s - i) (drop i s) (rw length-drop (omega arith))

module _ (w : List ℕ) (i : ℕ) (inside : i < length w) where
  pub split : drop i w ≡ get_or w i 0 ∷ drop (i + 1) w
  split = rw add-one (drop-cons w i 0 inside)

  pub hash_at : (h : ℕ) → hash_from h (drop i w) ≡ hash_from ((h * 31 + get_or w i 0) % 65536) (drop (i + 1) w)
  unfolding hash_from
  hash_at h = rw split

-- ---- no byte more

module _ (w : List ℕ) (i : ℕ) (over : length w ≤ i) where
  pub hash_end : (h : ℕ) → hash_from h (drop i w) ≡ h
  unfolding hash_from
  hash_end h = rw (drop_of_length-le w over)

-- ---- whole words

-- a line is within what it stands in
pub line_within : (s : List ℕ) → line_length s ≤ length s
unfolding line_length
line_within [] = omega arith
line_within (b ∷ s) = by (eqb b 10) (line_within s)
  where
    by : (t : Bool) → line_length s ≤ length s → cond t 0 (suc (line_length s)) ≤ suc (length s)
    by true h = omega arith
    by false h = omega arith

-- the first line feed stands behind the line
pub first_feed : (s : List ℕ) → position_or_len (λ b. eqb b 10) s ≡ line_length s
unfolding line_length
first_feed [] = refl
first_feed (b ∷ s) = by (eqb b 10) (first_feed s)
  where
    by : (t : Bool) → position_or_len (λ b. eqb b 10) s ≡ line_length s
        → cond (not t) (1 + position_or_len (λ b. eqb b 10) s) 0 ≡ cond t 0 (suc (line_length s))
    by true e = refl
    by false e = omega arith

pub found_or_end : (n m : ℕ) → n ≤ m → unwrap_or (cond (ltb n m) (Some n) None) m ≡ n
found_or_end n m h = by (ltb n m) refl
  where
    by : (t : Bool) → ltb n m ≡ t → unwrap_or (cond t (Some n) None) m ≡ n
    by true e = refl
    by false e = omega (arith, ltb-false n m e)

-- all bytes are name bytes
pub all_of_name : (w : List ℕ) → list_all is_name_byte w ≡ all_name_bytes w
unfolding all_name_bytes
all_of_name [] = refl
all_of_name (b ∷ w) = rw (all_of_name w)

-- a name is a letter and name bytes
pub good_at : (w : List ℕ) → 0 < length w → good_name w ≡ (is_letter (get_or w 0 0) && all_name_bytes (drop 1 w))
unfolding good_name
good_at [] h = absurd (omega arith)
good_at (b ∷ w) h = refl

pub good_none : (w : List ℕ) → length w ≡ 0 → good_name w ≡ false
unfolding good_name
good_none [] h = refl
good_none (b ∷ w) h = absurd (omega arith)

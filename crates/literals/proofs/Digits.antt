-- Laws of the digits in a word, byte by byte: how many there are, and their whole number; and of a literal's digits: how large their number is,
-- and how many stand behind the point.
-- Assumes nothing.
use Rattle.text.specs.declared.Run.{Run}
use Rattle.text.specs.declared.Run.TheVariants.{Digits}
use Prim.Native.Nat.{ℕ, zero, suc, ◌+◌, ◌-◌, ◌*◌, ◌^◌, ◌<◌, ◌≤◌, min}
use native.Mathlib.Nat.{pow-succ', pow-le-pow_right, add_assoc, mul_assoc, mul-le-mul_right}
use native.Mathlib.Numerals.{add-one}
use native.Mathlib.Omega.{arith}
use mathlib.Core.Path.{◌≡◌, refl, sym, ap, ◌∙◌}
use mathlib.Core.Bool.{Bool, true, false, cond}
use mathlib.Core.List.{List, [], ◌∷◌, ◌++◌}
use lib.ListN.{length, take, drop, length-append, length-take, drop_of_length-le}
use lib.Seq.{drop-cons, drop-drop, take-add}
use lib.Dec.{eqb}
use Rattle.meaning.specs.Lists.{keep}
use Rattle.meaning.proofs.Lists.{keep_append}
use Rattle.decimal.specs.Decimal.{is_digit, number_from, number}
use Rattle.decimal.proofs.Decimals.{digit_range}
use Rattle.text.specs.Tokens.{passes, byte, many, between, run_end, number_end}
use Rattle.text.specs.Limited.{number_at, digits, digits_behind, most_digits}

-- ---- byte by byte

-- where nothing is left
module _ (w : List ℕ) (i : ℕ) (h : length w ≤ i) where
  pub count_none : length (digits (drop i w)) ≡ 0
  unfolding digits keep
  count_none = rw (drop_of_length-le w h)

  pub number_none : (n : ℕ) → number_from n (digits (drop i w)) ≡ n
  unfolding digits keep number_from
  number_none n = rw (drop_of_length-le w h)

-- where a byte is left
module _ (w : List ℕ) (i : ℕ) (h : i < length w) where
  -- a digit counts
  pub count_digit : is_digit (byte w i) ≡ true → length (digits (drop i w)) ≡ length (digits (drop (i + 1) w)) + 1
  unfolding digits keep
  count_digit e = rw (drop-cons w i 0 h, add-one i) (rw e (sym (add-one _)))

  -- any other byte doesn't
  pub count_other : is_digit (byte w i) ≡ false → length (digits (drop i w)) ≡ length (digits (drop (i + 1) w))
  unfolding digits keep
  count_other e = rw (drop-cons w i 0 h, add-one i) (rw e)

  -- the number of the digits from i on, behind those of n
  pub number_first : (n : ℕ)
      → number_from (cond (is_digit (byte w i)) (10 * n + (byte w i - 48)) n) (digits (drop (i + 1) w)) ≡ number_from n (digits (drop i w))
  unfolding digits keep number_from
  number_first n = rw (drop-cons w i 0 h, add-one i) (by (is_digit (byte w i)))
    where
      rest : List ℕ
      rest = keep is_digit (drop (suc i) w)

      by : (t : Bool) → number_from (cond t (10 * n + (byte w i - 48)) n) rest ≡ number_from n (cond t (byte w i ∷ rest) rest)
      by true = refl
      by false = refl

-- ---- how large a number of digits is

-- each digit makes n at most ten times as much and nine
number_below : (n : ℕ) (w : List ℕ) → number_from n (digits w) < suc n * 10 ^ length (digits w)
unfolding digits keep number_from
number_below n [] = omega arith
number_below n (b ∷ w) = by (is_digit b) refl (number_below (10 * n + (b - 48)) w) (number_below n w)
  where
    rest : List ℕ
    rest = keep is_digit w

    by : (t : Bool) → is_digit b ≡ t
        → number_from (10 * n + (b - 48)) rest < suc (10 * n + (b - 48)) * 10 ^ length rest
        → number_from n rest < suc n * 10 ^ length rest
        → number_from n (cond t (b ∷ rest) rest) < suc n * 10 ^ length (cond t (b ∷ rest) rest)
    by true e more same =
        let d : b ≤ 57 = (digit_range b e).1 in
        let h : suc (10 * n + (b - 48)) ≤ suc n * 10 = omega arith in
        let m : suc (10 * n + (b - 48)) * 10 ^ length rest ≤ suc n * 10 * 10 ^ length rest = mul-le-mul_right (10 ^ length rest) h in
        let p : suc n * 10 * 10 ^ length rest ≡ suc n * 10 ^ suc (length rest) =
        mul_assoc (suc n) 10 (10 ^ length rest) ∙ rw (pow-succ' 10 (length rest)) in
        omega arith
    by false e more same = same

pub power_within : (n : ℕ) → n ≤ most_digits → 10 ^ n ≤ 10 ^ most_digits
power_within n h = pow-le-pow_right {n = 10} (omega arith) h

-- the whole number of digits that are not too many
pub number_within : (w : List ℕ) → length (digits w) ≤ most_digits → number (digits w) < 10 ^ most_digits
number_within w h = omega (arith, power_within (length (digits w)) h, number_below 0 w)

-- ---- the digits behind the point

-- no more digits stand behind the point than in all
abbrev pub Few : List ℕ → Type 0
Few w = digits_behind w ≤ length (digits w)

-- a front of a list begins with as many, if it is long enough
many_take : (q : Run) (n : ℕ) (l : List ℕ) → many q (take n l) ≡ min n (many q l)
unfolding many
many_take q zero l = omega arith
many_take q (suc n) [] = omega arith
many_take q (suc n) (b ∷ l) = by (passes q b) (many_take q n l)
  where
    by : (t : Bool) → many q (take n l) ≡ min n (many q l) → cond t (suc (many q (take n l))) 0 ≡ min (suc n) (cond t (suc (many q l)) 0)
    by true e = rw e (omega arith)
    by false e = omega arith

-- the digits at the front are digits
front_digits : (l : List ℕ) → length (digits (take (many Digits l) l)) ≡ many Digits l
unfolding digits keep many
front_digits [] = refl
front_digits (b ∷ l) = by (is_digit b) refl (front_digits l)
  where
    by : (t : Bool) → is_digit b ≡ t → length (keep is_digit (take (many Digits l) l)) ≡ many Digits l
        → length (keep is_digit (take (cond t (suc (many Digits l)) 0) (b ∷ l))) ≡ cond t (suc (many Digits l)) 0
    by true e more = rw e (ap suc more)
    by false e more = refl

digits_append : (v w : List ℕ) → length (digits (v ++ w)) ≡ length (digits v) + length (digits w)
unfolding digits
digits_append v w = rw (keep_append is_digit v w) (length-append (keep is_digit v) (keep is_digit w))

module _ (l : List ℕ) where
  -- digits alone have none behind a point
  behind_none : digits_behind (take (many Digits l) l) ≡ 0
  unfolding digits_behind
  behind_none = rw (many_take Digits (many Digits l) l, length-take (many Digits l) l) (omega arith)

  -- those behind one are among the digits
  behind_among : Few (take (many Digits l + 1 + many Digits (drop (many Digits l + 1) l)) l)
  unfolding digits_behind
  behind_among =
      let a : ℕ = many Digits l in
      let rest : List ℕ = drop (a + 1) l in
      let all : length (digits (take (a + 1 + many Digits rest) l)) ≡ length (digits (take (a + 1) l)) + many Digits rest =
      rw (take-add (a + 1) (many Digits rest) l) (digits_append (take (a + 1) l) (take (many Digits rest) rest) ∙ rw (front_digits rest)) in
      rw (many_take Digits (a + 1 + many Digits rest) l, length-take (a + 1 + many Digits rest) l, all) (omega arith)

-- a literal has digits alone, or a point among them
pub behind_few : (text : List ℕ) (p : ℕ) → Few (number_at text p)
unfolding number_at number_end run_end
behind_few text p = by (eqb (byte text (p + a)) 46)
  where
    a : ℕ
    a = many Digits (drop p text)

    last : ℕ
    last = p + a + 1 + many Digits (drop (p + a + 1) text)

    by : (t : Bool) → Few (between text p (cond t last (p + a)))
    by true =
        let d : drop (a + 1) (drop p text) ≡ drop (p + a + 1) text = drop-drop (a + 1) p text ∙ rw (add_assoc p a 1) in
        let e : last - p ≡ a + 1 + many Digits (drop (p + a + 1) text) = omega arith in
        rw (e, ← d) (behind_among (drop p text))
    by false =
        let e : p + a - p ≡ a = omega arith in
        rw (e, behind_none (drop p text)) (omega arith)

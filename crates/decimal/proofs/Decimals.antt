-- Laws of decimals: how digits grow, and the two round trips, from a number to its digits and back and from digits to their number and back.
-- Assumes nothing.
use Prim.Native.Nat.{ℕ, zero, suc, ◌+◌, ◌-◌, ◌*◌, ◌/◌, ◌%◌, ◌^◌, ◌<◌, ◌≤◌, min}
use native.Mathlib.Omega.{arith}
use native.Mathlib.Nat.{not-suc-le-zero}
use native.Mathlib.Numerals.{add-one}
use mathlib.Core.Path.{◌≡◌, refl, sym, ap, ◌∙◌}
use mathlib.Core.Logic.{⊎_elim}
use mathlib.Core.Bool.{Bool, true, false, ◌&&◌, cond, and-false, true≢false}
use mathlib.Core.List.{List, [], ◌∷◌, ◌++◌, append-nil}
use lib.ListN.{length, get_or, take, drop, drop_of_length-le, length-append, get_or-eq_default}
use lib.Seq.{drop-cons, append_snoc, take_at}
use lib.Dec.{T, leb, eqb, leb→le}
use borrow.Author.Tests.{lt-ltb, le-ltb, le-leb, lt-leb, eqb-false, ne_eqb, not-true}
use Rattle.meaning.proofs.Bools.{lt_or_ge, truly, and_l, and_r, is_true}
use Rattle.decimal.specs.Decimal.{most_number, digits_of, digits, is_digit, leading, number_from, number, plain, decimal_at}
use Rattle.std.specs.Prelude.{Option, Some, None}

-- ---- digits

-- what holds of the numbers below 10, and of a number where it holds of its tenth, holds of all: induction along the digits
pub tens : (P : ℕ → Type 0) → ((n : ℕ) → n < 10 → P n) → ((n : ℕ) → 10 ≤ n → P (n / 10) → P n) → (n : ℕ) → P n
tens P few more n = within (suc n) n (omega arith)
  where
    within : (m n : ℕ) → n < m → P n
    within zero n h = absurd (not-suc-le-zero h)
    within (suc m) n h = ⊎_elim (few n) (λ k. more n k (within m (n / 10) (omega arith))) (lt_or_ge n 10)

-- how many digits are allowed for does not matter where there are enough
enough : (m k n : ℕ) → n < m → n < k → digits_of m n ≡ digits_of k n
unfolding digits_of
enough zero k n h g = absurd (not-suc-le-zero h)
enough (suc m) zero n h g = absurd (not-suc-le-zero g)
enough (suc m) (suc k) n h g =
    ⊎_elim
    (λ (l : n < 10). rw (lt-ltb n 10 l))
    (λ (l : 10 ≤ n).
    let e : digits_of m (n / 10) ≡ digits_of k (n / 10) = enough m k (n / 10) (omega arith) (omega arith) in
    rw (le-ltb n 10 l, e))
    (lt_or_ge n 10)

pub digits_few : (n : ℕ) → n < 10 → digits n ≡ (48 + n) ∷ []
unfolding digits digits_of
digits_few n h = rw (lt-ltb n 10 h)

pub digits_more : (n : ℕ) → 10 ≤ n → digits n ≡ digits (n / 10) ++ ((48 + n % 10) ∷ [])
unfolding digits digits_of
digits_more n h =
    let e : digits_of n (n / 10) ≡ digits_of (suc (n / 10)) (n / 10) = enough n (suc (n / 10)) (n / 10) (omega arith) (omega arith) in
    rw (le-ltb n 10 h, e)

-- a digit more behind those of a number above 0
pub digits_behind_lem : (n d : ℕ) → 0 < n → d < 10 → digits (10 * n + d) ≡ digits n ++ ((48 + d) ∷ [])
digits_behind_lem n d h k =
    let q : (10 * n + d) / 10 ≡ n = omega arith in
    let r : (10 * n + d) % 10 ≡ d = omega arith in
    digits_more (10 * n + d) (omega arith) ∙ rw (q, r)

-- how many digits a number has: one more than a tenth of it, at least one, and up to the largest number at most ten
pub width_few : (n : ℕ) → n < 10 → length (digits n) ≡ 1
width_few n h = rw (digits_few n h)

pub width_more : (n : ℕ) → 10 ≤ n → length (digits n) ≡ length (digits (n / 10)) + 1
width_more n h = rw (digits_more n h, length-append)

pub width_some : (n : ℕ) → 0 < length (digits n)
width_some n = ⊎_elim (λ (h : n < 10). rw (width_few n h) (omega arith)) (λ (h : 10 ≤ n). rw (width_more n h) (omega arith)) (lt_or_ge n 10)

width_within : (k n : ℕ) → n < 10 ^ suc k → length (digits n) ≤ suc k
width_within zero n h = rw (width_few n (omega arith)) (omega arith)
width_within (suc k) n h =
    ⊎_elim
    (λ (l : n < 10). rw (width_few n l) (omega arith))
    (λ (l : 10 ≤ n). let i : length (digits (n / 10)) ≤ suc k = width_within k (n / 10) (omega arith) in rw (width_more n l) (omega arith))
    (lt_or_ge n 10)

pub width_ten : (n : ℕ) → n ≤ most_number → length (digits n) ≤ 10
width_ten n h = width_within 9 n (omega arith)

-- ---- numbers of digits

-- digits behind others do not make a number less
pub number_grows : (n : ℕ) (s : List ℕ) → n ≤ number_from n s
unfolding number_from
number_grows n [] = omega arith
number_grows n (b ∷ s) = let h : 10 * n + (b - 48) ≤ number_from (10 * n + (b - 48)) s = number_grows (10 * n + (b - 48)) s in omega arith

-- what is too large in front is too large in all: a number may be cut off above the largest at each digit
pub number_cut : (most n : ℕ) (s : List ℕ) → min (number_from (min n most) s) most ≡ min (number_from n s) most
number_cut most n s =
    ⊎_elim
    (λ (h : n < most). let e : min n most ≡ n = omega arith in rw e)
    (λ (h : most ≤ n).
    let e : min n most ≡ most = omega arith in
    let a : most ≤ number_from most s = number_grows most s in
    let b : n ≤ number_from n s = number_grows n s in
    rw e (omega arith))
    (lt_or_ge n most)

number_behind : (n : ℕ) (s : List ℕ) (b : ℕ) → number_from n (s ++ (b ∷ [])) ≡ 10 * number_from n s + (b - 48)
unfolding number_from
number_behind n [] b = refl
number_behind n (c ∷ s) b = number_behind (10 * n + (c - 48)) s b

-- the number of a number's digits is the number
pub number_digits : (n : ℕ) → number (digits n) ≡ n
unfolding number_from
number_digits =
    tens (λ n. number (digits n) ≡ n)
    (λ n h. rw (digits_few n h) (omega arith))
    (λ n h e. rw (digits_more n h, number_behind 0 (digits (n / 10)) (48 + n % 10), e) (omega arith))

-- ---- the digits at the front of a text

digit : (d : ℕ) → d < 10 → is_digit (48 + d) ≡ true
digit d h = rw (le-leb 48 (48 + d) (omega arith), le-leb (48 + d) 57 (omega arith))

-- each byte of these is a digit
abbrev pub Digits : List ℕ → Type 0
Digits s = leading s ≡ s

pub leading_append : (s rest : List ℕ) → Digits s → leading (s ++ rest) ≡ s ++ leading rest
unfolding leading
leading_append [] rest h = refl
leading_append (b ∷ s) rest h = by (is_digit b) refl (leading_append s rest)
  where
    by : (t : Bool) → is_digit b ≡ t → (Digits s → leading (s ++ rest) ≡ s ++ leading rest) → leading (b ∷ (s ++ rest)) ≡ b ∷ (s ++ leading rest)
    by true e more = let k : b ∷ leading s ≡ b ∷ s = rw e at h in rw (e, more (cc))
    by false e more = let z : [] ≡ b ∷ s = rw e at h in cc

pub leading_leading : (s : List ℕ) → Digits (leading s)
unfolding leading
leading_leading [] = refl
leading_leading (b ∷ s) = by (is_digit b) refl (leading_leading s)
  where
    by : (t : Bool) → is_digit b ≡ t → Digits (leading s) → leading (leading (b ∷ s)) ≡ leading (b ∷ s)
    by true e more = rw e (rw (e, more))
    by false e more = rw e

-- a text is the digits at its front and the rest
pub leading_split : (s : List ℕ) → s ≡ leading s ++ drop (length (leading s)) s
unfolding leading
leading_split [] = refl
leading_split (b ∷ s) = by (is_digit b) refl (leading_split s)
  where
    by : (t : Bool) → is_digit b ≡ t → s ≡ leading s ++ drop (length (leading s)) s → b ∷ s ≡ leading (b ∷ s) ++ drop (length (leading (b ∷ s))) (b ∷ s)
    by true e more = rw e (ap (λ (l : List ℕ). b ∷ l) more)
    by false e more = rw e

pub digits_digits : (n : ℕ) → Digits (digits n)
unfolding leading
digits_digits =
    tens (λ n. Digits (digits n))
    (λ n h. rw (digits_few n h) (rw (digit n h)))
    (λ n h e. rw (digits_more n h) (rw (leading_append (digits (n / 10)) ((48 + n % 10) ∷ []) e, digit (n % 10) (omega arith))))

pub digit_range : (b : ℕ) → is_digit b ≡ true → (48 ≤ b) × (b ≤ 57)
digit_range b e =
    let r : T (leb 48 b && leb b 57) = truly e in
    (leb→le 48 b (and_l (leb 48 b) (leb b 57) r), leb→le b 57 (and_r (leb 48 b) (leb b 57) r))

-- the first of digits is one, and so are the others
pub first_digit : (b : ℕ) (s : List ℕ) → Digits (b ∷ s) → (48 ≤ b) × (b ≤ 57) × Digits s
unfolding leading
first_digit b s h = by (is_digit b) refl
  where
    by : (t : Bool) → is_digit b ≡ t → (48 ≤ b) × (b ≤ 57) × Digits s
    by true e =
        let k : b ∷ leading s ≡ b ∷ s = rw e at h in
        let r = digit_range b e in
        (r.0, r.1, cc)
    by false e = let z : [] ≡ b ∷ s = rw e at h in let w : ◌≡◌ {A = ℕ} 0 1 = cc in absurd (omega arith)

-- ---- the two round trips

-- the first digit of a number above 0 is no `0`
highest : (n : ℕ) → 0 < n → (b : ℕ) × (s : List ℕ) × (digits n ≡ b ∷ s) × (48 < b)
highest =
    tens (λ n. 0 < n → (b : ℕ) × (s : List ℕ) × (digits n ≡ b ∷ s) × (48 < b))
    (λ n h k. (48 + n, [], digits_few n h, omega arith))
    (λ n h more k.
    let r = more (omega arith) in
    (r.0, r.1 ++ ((48 + n % 10) ∷ []), rw (digits_more n h, r.2), r.3))

plain_front : (b : ℕ) (s : List ℕ) → 48 < b → plain (b ∷ s) ≡ true
unfolding plain
plain_front b [] h = refl
plain_front b (c ∷ s) h = rw (ne_eqb b 48 (λ e. omega arith))

-- a number's digits have no leading zero
pub plain_digits : (n : ℕ) → plain (digits n) ≡ true
unfolding plain
plain_digits n =
    ⊎_elim
    (λ (h : n < 1). rw (digits_few n (omega arith)))
    (λ (h : 1 ≤ n). let r = highest n h in rw r.2 (plain_front r.0 r.1 r.3))
    (lt_or_ge n 1)

-- digits behind those of a number above 0 are the digits of the number that they make
behind : (n : ℕ) (s : List ℕ) → 0 < n → Digits s → digits (number_from n s) ≡ digits n ++ s
unfolding number_from
behind n [] h k = sym (append-nil (digits n))
behind n (b ∷ s) h k =
    let d = first_digit b s k in
    let e : 48 + (b - 48) ≡ b = omega arith in
    behind (10 * n + (b - 48)) s (omega arith) d.2
    ∙ rw (digits_behind_lem n (b - 48) h (omega arith), e) (append_snoc (digits n) b s)

-- the digits of the number of digits, without leading zeros, are the digits
pub digits_number : (s : List ℕ) → Digits s → plain s ≡ true → digits (number s) ≡ s
unfolding number_from plain
digits_number [] h k = absurd (true≢false (sym k))
digits_number (b ∷ []) h k =
    let d = first_digit b [] h in
    let e : 48 + (10 * 0 + (b - 48)) ≡ b = omega arith in
    digits_few (10 * 0 + (b - 48)) (omega arith) ∙ rw e
digits_number (b ∷ (c ∷ s)) h k =
    let d = first_digit b (c ∷ s) h in
    let n : b ≡ 48 → ⊥ = eqb-false b 48 (not-true (eqb b 48) k) in
    let e : 48 + (10 * 0 + (b - 48)) ≡ b = omega arith in
    let p : 0 < 10 * 0 + (b - 48) = ⊎_elim (λ (l : b < 49). absurd (n (omega arith))) (λ (l : 49 ≤ b). omega arith) (lt_or_ge b 49) in
    behind (10 * 0 + (b - 48)) (c ∷ s) p d.2
    ∙ rw (digits_few (10 * 0 + (b - 48)) (omega arith), e)

-- ---- reading

-- what is read where the digits of a number stand, no digit behind them
pub read_digits : (text : List ℕ) (i n : ℕ) (rest : List ℕ) → n ≤ most_number → drop i text ≡ digits n ++ rest → leading rest ≡ []
    → decimal_at text i ≡ Some (n, i + length (digits n))
unfolding decimal_at
read_digits text i n rest h e l =
    let d : leading (drop i text) ≡ digits n = rw e (leading_append (digits n) rest (digits_digits n) ∙ rw l (append-nil (digits n))) in
    rw (d, plain_digits n, number_digits n, le-leb n most_number h)

-- what is found is one number and one index
pub found_same : (n i m j : ℕ) → ◌≡◌ {A = Option (ℕ × ℕ)} (Some (n, i)) (Some (m, j)) → (n ≡ m) × (i ≡ j)
found_same n i m j e =
    let k : ◌≡◌ {A = ℕ × ℕ} (n, i) (m, j) = cc in
    (ap (λ (t : ℕ × ℕ). t.0) k, ap (λ (t : ℕ × ℕ). t.1) k)

-- and what is read stands there
pub digits_read : (text : List ℕ) (i n next : ℕ) → decimal_at text i ≡ Some (n, next)
    → (n ≤ most_number) × (leading (drop i text) ≡ digits n) × (next ≡ i + length (digits n))
unfolding decimal_at
digits_read text i n next e = by (plain d && leb (number d) most_number) refl
  where
    d : List ℕ
    d = leading (drop i text)

    by : (t : Bool) → (plain d && leb (number d) most_number) ≡ t → (n ≤ most_number) × (d ≡ digits n) × (next ≡ i + length (digits n))
    by true c =
        let f = found_same (number d) (i + length d) n next (rw c at e) in
        let a : number d ≡ n = f.0 in
        let p : plain d ≡ true = is_true (plain d) (and_l (plain d) (leb (number d) most_number) (truly c)) in
        let m : number d ≤ most_number = leb→le (number d) most_number (and_r (plain d) (leb (number d) most_number) (truly c)) in
        let s : digits n ≡ d = rw a at (digits_number d (leading_leading (drop i text)) p) in
        let z : i + length d ≡ next = f.1 in
        (rw a at m, sym s, rw s (sym z))
    by false c = let k : ◌≡◌ {A = Option (ℕ × ℕ)} None (Some (n, next)) = rw c at e in let w : ◌≡◌ {A = ℕ} 0 1 = cc in absurd (omega arith)

-- ---- the digits from an index on, one by one

-- what 0 is not stands inside the text: past its end 0 is read
pub stands_inside : (test : ℕ → Bool) (text : List ℕ) (i : ℕ) → test 0 ≡ false → test (get_or text i 0) ≡ true → i < length text
stands_inside test text i n e =
    ⊎_elim
    (λ (h : i < length text). h)
    (λ (h : length text ≤ i). let z : test 0 ≡ true = rw (get_or-eq_default text 0 h) at e in absurd (true≢false (sym z ∙ n)))
    (lt_or_ge i (length text))

pub digit_inside : (text : List ℕ) (i : ℕ) → is_digit (get_or text i 0) ≡ true → i < length text
digit_inside text i e = stands_inside is_digit text i refl e

-- no digit stands behind the end
pub no_digit_outside : (text : List ℕ) (i : ℕ) → length text ≤ i → is_digit (get_or text i 0) ≡ false
no_digit_outside text i h = rw (get_or-eq_default text 0 h)

-- a digit at index i is the first of those from i on
pub leading_at : (text : List ℕ) (i : ℕ) → is_digit (get_or text i 0) ≡ true → leading (drop i text) ≡ get_or text i 0 ∷ leading (drop (i + 1) text)
unfolding leading
leading_at text i e = let h : i < length text = digit_inside text i e in rw (drop-cons text i 0, add-one) (rw e)

-- where none stands there are none
pub leading_none : (text : List ℕ) (i : ℕ) → is_digit (get_or text i 0) ≡ false → leading (drop i text) ≡ []
unfolding leading
leading_none text i e =
    ⊎_elim
    (λ (h : i < length text). rw (drop-cons text i 0 h) (rw e))
    (λ (h : length text ≤ i). rw (drop_of_length-le text h))
    (lt_or_ge i (length text))

-- the first digits of a text, count of them, have been read, and their number is value: with the digits behind them it is the number of all
pub record Reading (text : List ℕ) (value count : ℕ) : Type 0 where
  pub placed : count + length (leading (drop count text)) ≡ length (leading text)
  pub counted : number_from value (leading (drop count text)) ≡ number (leading text)

pub reading_starts : (text : List ℕ) → Reading text 0 0
reading_starts text = record { placed = omega arith; counted = refl }

pub reading_more : (text : List ℕ) (value count : ℕ) → Reading text value count → is_digit (get_or text count 0) ≡ true
    → Reading text (10 * value + (get_or text count 0 - 48)) (count + 1)
unfolding number_from
reading_more text value count r e =
    let l : leading (drop count text) ≡ get_or text count 0 ∷ leading (drop (count + 1) text) = leading_at text count e in
    let p : count + suc (length (leading (drop (count + 1) text))) ≡ length (leading text) = rw l at r.placed in
    record { placed = omega arith; counted = rw l at r.counted }

-- a number that is too large stays so with more digits behind it
pub reading_large : (text : List ℕ) (value count : ℕ) → Reading text value count → most_number < value → most_number < number (leading text)
reading_large text value count r h =
    let k : value ≤ number_from value (leading (drop count text)) = number_grows value (leading (drop count text)) in
    let c = r.counted in
    omega arith

-- behind the last digit all have been read
pub reading_done : (text : List ℕ) (value count : ℕ) → Reading text value count → is_digit (get_or text count 0) ≡ false
    → (count ≡ length (leading text)) × (value ≡ number (leading text))
unfolding number_from
reading_done text value count r e =
    let l : leading (drop count text) ≡ [] = leading_none text count e in
    let p : count + 0 ≡ length (leading text) = rw l at r.placed in
    let k : value ≡ number (leading text) = rw l at r.counted in
    (omega arith, k)

-- the digits at the front of a text are what it begins with
pub take_leading : (text : List ℕ) → take (length (leading text)) text ≡ leading text
take_leading text = ap (λ (s : List ℕ). take (length (leading text)) s) (leading_split text) ∙ take_at (leading text) _ (length (leading text)) refl

-- what stands at an index is a decimal unless the digits there are none or their number is too large
pub read_plain : (text : List ℕ) (at : ℕ) → plain (leading (drop at text)) ≡ false → decimal_at text at ≡ None
unfolding decimal_at
read_plain text at e = rw e

pub read_large : (text : List ℕ) (at : ℕ) → most_number < number (leading (drop at text)) → decimal_at text at ≡ None
unfolding decimal_at
read_large text at h =
    rw (lt-leb (number (leading (drop at text))) most_number h, and-false (plain (leading (drop at text))))

pub read_number : (text : List ℕ) (at : ℕ) → plain (leading (drop at text)) ≡ true → number (leading (drop at text)) ≤ most_number
    → decimal_at text at ≡ Some (number (leading (drop at text)), at + length (leading (drop at text)))
unfolding decimal_at
read_number text at e h = rw (e, le-leb (number (leading (drop at text))) most_number h)

-- what stands there, once all its digits have been read
pub read_done : (text : List ℕ) (at : ℕ) (rest : List ℕ) (value count : ℕ) → rest ≡ drop at text → Reading rest value count → is_digit (get_or rest count 0) ≡ false → value ≤ most_number
    → decimal_at text at ≡ cond (plain (take count rest)) (Some (value, at + count)) None
read_done text at rest value count e r last h =
    let r' = rw e at r in
    let last' = rw e at last in
    let d = reading_done (drop at text) value count r' last' in
    let t : take count rest ≡ leading (drop at text) = rw (e, d.0) (take_leading (drop at text)) in
    rw t (by d (plain (leading (drop at text))) refl)
  where
    by : (count ≡ length (leading (drop at text))) × (value ≡ number (leading (drop at text))) → (p : Bool) → plain (leading (drop at text)) ≡ p
        → decimal_at text at ≡ cond (plain (leading (drop at text))) (Some (value, at + count)) None
    by d true p = let n : number (leading (drop at text)) ≤ most_number = omega arith in rw (p, d.0, d.1) (read_number text at p n)
    by d false p = rw p (read_plain text at p)

-- no decimal stands behind the end of a text
pub read_outside : (text : List ℕ) (at : ℕ) → length text < at → decimal_at text at ≡ None
unfolding decimal_at leading plain
read_outside text at h = let e : drop at text ≡ [] = drop_of_length-le text (omega arith) in rw e

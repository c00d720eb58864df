-- The value of a number literal of at most 15 digits is one that document 01 takes: finite and not negative. Its whole number and its power of
-- ten are held exactly, the quotient is no more than the whole number, and the bits of such a value are below those of infinity.
-- Assumes nothing.
use Rattle.text.specs.declared.Run.TheVariants.{Digits}
use Prim.Native.Nat.{ℕ, zero, suc, ◌+◌, ◌-◌, ◌*◌, ◌/◌, ◌%◌, ◌^◌, ◌≤◌, ◌<◌}
use mathlib.Core.Path.{◌≡◌, refl, sym, subst, subst⁻¹, ap, ◌∙◌}
use mathlib.Core.Logic.{inl, inr}
use mathlib.Core.Bool.{Bool, true, false, cond, true≢false}
use mathlib.Core.List.{List, [], ◌∷◌}
use lib.ListN.{length, take, drop}
use lib.Seq.{drop-drop}
use lib.Dec.{T, eqb, leb, ltb, leb→le}
use lib.Ieee.{Float, nan, inf, fin, Format, binary64, prec, up, down, low, hid, ones, top, odd, units, round, fits, is_nan, le, of_fields, of_bits, to_bits}
use lib.Ieee as Ieee
use lib.Ieee.Bits.{of_bits-to_bits}
use lib.Ieee.Fits.{round_is, div-fits, up_pos, down_pos}
use lib.Ieee.Exact.{HasValue}
use lib.Ieee.Back.{round_whole}
use lib.Ieee.Order.{round_mono}
use lib.Ieee.Scale.{finite}
use lib.Ieee.Positive.{first_pos}
use native.Mathlib.Nat.{one-le-pow, pow-zero, pow-succ', mul-le-mul_right, lt_of_lt_of_le, mod-eq_of_lt, div-eq_of_lt-le, mul-pos, mul-one, mul_comm, mul_assoc, le_trans, le_of_eq, mul-le-mul_left, mul_left_comm, pow-le-pow_right}
use native.Mathlib.Omega.{arith}
use borrow.Author.Tests.{le-leb, lt-leb, ne_eqb}
use Rattle.meaning.specs.Lists.{keep}
use Rattle.meaning.specs.Rows.{bad_literal}
use Rattle.meaning.specs.Meaning.{float}
use Rattle.meaning.proofs.Bools.{lt_or_ge, and_r, truly}
use Rattle.decimal.specs.Decimal.{is_digit, number_from}
use Rattle.text.specs.Tokens.{many, run_end, number_end, between, byte}
use Rattle.text.specs.Limited.{number_at, digits, most_digits, digits_behind, value_at}

-- ---- finite values with the sign clear

abbrev plain : Float → Bool
plain nan = false
plain (inf s) = false
plain (fin true m e) = false
plain (fin false m e) = true

plain_odd : (d q k l : ℕ) → (plain (odd d false q k l) ≡ true) × (plain (odd d true q k l) ≡ false)
unfolding odd
plain_odd d zero k l = (refl, refl)
plain_odd d (suc q) k l = (refl, refl)

-- a pattern with the sign set is none, and none whose exponent's field is all ones
negative_fields : (f : Format) (x t : ℕ) → plain (of_fields f true x t) ≡ false
unfolding of_fields
negative_fields f zero t = (plain_odd (prec f) t 0 (low f)).1
negative_fields f (suc x) t = decide (eqb (suc x) (ones f)) (eqb t 0)
  where
    decide : (b c : Bool) → plain (cond b (cond c (inf true) nan) (odd (prec f) true (hid f + t) x (low f))) ≡ false
    decide true true = refl
    decide true false = refl
    decide false c = (plain_odd (prec f) (hid f + t) x (low f)).1

full_fields : (s : Bool) (t : ℕ) → plain (of_fields binary64 s (ones binary64) t) ≡ false
unfolding of_fields
full_fields s t = decide (eqb t 0)
  where
    decide : (c : Bool) → plain (cond c (inf s) nan) ≡ false
    decide true = refl
    decide false = refl

-- so the bits of a finite value with the sign clear are below those of infinity
plain_bits : (v : Float) → T (fits binary64 v) → plain v ≡ true → to_bits binary64 v < ones binary64 * hid binary64
unfolding of_bits
plain_bits v h p = elim (lt_or_ge (to_bits binary64 v) (ones binary64 * hid binary64)) [
  | inl l ↦ l
  | inr l ↦ absurd (true≢false (sym p ∙ (ap plain (sym (of_bits-to_bits binary64 v h)) ∙ read (to_bits binary64 v) l)))
]
  where
    read : (b : ℕ) → ones binary64 * hid binary64 ≤ b → plain (of_bits binary64 b) ≡ false
    read b l = elim (lt_or_ge b (top binary64)) [
      | inl k ↦
          let field : b / hid binary64 ≡ ones binary64 = div-eq_of_lt-le (hid binary64) l (omega arith) in
          rw (mod-eq_of_lt k, field) (full_fields (leb (top binary64) b) (b % hid binary64))
      | inr k ↦ rw (le-leb (top binary64) b k) (negative_fields binary64 (b % top binary64 / hid binary64) (b % hid binary64))
    ]

-- ---- quotients

-- what is rounded to no more than a finite value is finite, and its sign is clear
plain_units : (f : Format) (q k : ℕ) (y : Float) → T (finite y) → T (le (units f false q k) y) → plain (units f false q k) ≡ true
unfolding units le
plain_units f q k y h = decide (ltb (q * 2 ^ k) (2 ^ (low f + suc (Ieee.emax f)))) y h
  where
    decide :
        (b : Bool) (y : Float) → T (finite y) → T (le (cond b (odd (suc (prec f)) false q k (low f)) (inf false)) y)
        → plain (cond b (odd (suc (prec f)) false q k (low f)) (inf false)) ≡ true
    decide true y h m = (plain_odd (suc (prec f)) q k (low f)).0
    decide false nan h m = absurd h
    decide false (inf s) h m = absurd h
    decide false (fin s n e) h m = absurd m

plain_round : (f : Format) (a b : ℕ) (y : Float) → T (finite y) → T (le (round f false a b) y) → plain (round f false a b) ≡ true
plain_round f a b y h m =
    ap plain (round_is f false a b) ∙ plain_units f _ _ y h (subst (λ (z : Float). T (le z y)) (round_is f false a b) m)

value_finite : (x : Float) (s : Bool) (a c : ℕ) → HasValue x s a c → T (finite x)
value_finite nan s a c h = h
value_finite (inf t) s a c h = h
value_finite (fin t m e) s a c h = tt

-- a numerator over at least 1 is no more than itself
no_more : (a b m n p q : ℕ) → 0 < b → m * 1 ≡ a * p → n * 1 ≡ b * q → m * q * 1 ≤ a * (n * p)
no_more a b m n p q h e f =
    let k : a * p * q * 1 ≤ a * p * q * b = mul-le-mul_left (a * p * q) h in
    le_trans (le_of_eq (ap (λ (x : ℕ). x * q * 1) (sym (mul-one m) ∙ e)))
    (le_trans k (le_of_eq (rw (sym (mul-one n) ∙ f) (simp (mul_assoc, mul_comm, mul_left_comm)))))

-- a whole number over another is finite, with the sign clear
plain_div :
    (x y : Float) (a b : ℕ) → HasValue x false a 1 → HasValue y false b 1 → 0 < b → a ≤ 2 ^ prec binary64 → plain (Ieee.div binary64 x y) ≡ true
unfolding Ieee.div
plain_div nan y a b p q h k = absurd p
plain_div (inf s) y a b p q h k = absurd p
plain_div (fin true m e) y a b p q h k = absurd (true≢false p.0)
plain_div (fin false m e) nan a b p q h k = absurd q
plain_div (fin false m e) (inf t) a b p q h k = absurd q
plain_div (fin false m e) (fin true n d) a b p q h k = absurd (true≢false q.0)
plain_div (fin false m e) (fin false n d) a b p q h k =
    let some-n : 0 < n = first_pos n (up d) (first_pos (n * up d) 1 (subst⁻¹ (λ (z : ℕ). 0 < z) q.1 (mul-pos h (down_pos d)))) in
    let whole : HasValue (round binary64 false a 1) false a 1 = round_whole binary64 false a k in
    rw (ne_eqb n 0 (λ z. omega arith))
    (plain_round binary64 (m * up e * down d) (n * up d * down e) (round binary64 false a 1)
    (value_finite (round binary64 false a 1) false a 1 whole)
    (round_mono binary64 (m * up e * down d) (n * up d * down e) a 1 (mul-pos (mul-pos some-n (up_pos d)) (down_pos e)) (omega arith)
    (no_more a b (m * up e) (n * up d) (down e) (down d) h p.1 q.1)))

-- ---- digits

-- the whole number of digits is below the power of ten with as many zeros
digits_below : (n : ℕ) (w : List ℕ) → number_from n (keep is_digit w) < suc n * 10 ^ length (keep is_digit w)
unfolding number_from keep
digits_below n [] = rw (pow-zero 10) (omega arith)
digits_below n (b ∷ w) = decide (is_digit b) refl (digits_below n w) (digits_below (10 * n + (b - 48)) w)
  where
    decide :
        (q : Bool) → is_digit b ≡ q → number_from n (keep is_digit w) < suc n * 10 ^ length (keep is_digit w)
        → number_from (10 * n + (b - 48)) (keep is_digit w) < suc (10 * n + (b - 48)) * 10 ^ length (keep is_digit w)
        → number_from n (cond q (b ∷ keep is_digit w) (keep is_digit w)) < suc n * 10 ^ length (cond q (b ∷ keep is_digit w) (keep is_digit w))
    decide true e h k =
        let most : b ≤ 57 = leb→le b 57 (and_r (leb 48 b) (leb b 57) (truly e)) in
        let p : ℕ = 10 ^ length (keep is_digit w) in
        let more : suc (10 * n + (b - 48)) * p ≤ (10 * suc n) * p = mul-le-mul_right p (omega arith) in
        rw (pow-succ' 10 (length (keep is_digit w))) (lt_of_lt_of_le k (le_trans more (le_of_eq (simp (mul_assoc, mul_left_comm)))))
    decide false e h k = h

-- a run of digits is digits
run_digits : (xs : List ℕ) (j : ℕ) → j ≤ many Digits xs → length (take j xs) ≤ length (keep is_digit (take j xs))
unfolding many keep
run_digits xs zero h = omega arith
run_digits [] (suc j) h = omega arith
run_digits (b ∷ xs) (suc j) h = decide (is_digit b) h (run_digits xs j)
  where
    decide :
        (q : Bool) → suc j ≤ cond q (suc (many Digits xs)) 0 → (j ≤ many Digits xs → length (take j xs) ≤ length (keep is_digit (take j xs)))
        → suc (length (take j xs)) ≤ length (cond q (b ∷ keep is_digit (take j xs)) (keep is_digit (take j xs)))
    decide true h r = omega (arith, r (omega arith))
    decide false h r = absurd (omega arith)

-- at most one byte is no digit
abbrev OnePoint : List ℕ → Type 0
OnePoint w = length w ≤ suc (length (keep is_digit w))

-- so it is with two runs of digits and a byte between them
two_runs : (xs : List ℕ) (i n : ℕ) → i ≤ many Digits (drop (suc (many Digits xs)) xs) → n ≡ suc (many Digits xs) + i → OnePoint (take n xs)
unfolding many keep
two_runs [] i zero h e = omega arith
two_runs [] i (suc n) h e = omega arith
two_runs (b ∷ xs) i zero h e = omega arith
two_runs (b ∷ xs) i (suc n) h e = decide (is_digit b) h e (two_runs xs i n)
  where
    decide :
        (q : Bool) → i ≤ many Digits (drop (suc (cond q (suc (many Digits xs)) 0)) (b ∷ xs)) → suc n ≡ suc (cond q (suc (many Digits xs)) 0) + i
        → (i ≤ many Digits (drop (suc (many Digits xs)) xs) → n ≡ suc (many Digits xs) + i → OnePoint (take n xs))
        → suc (length (take n xs)) ≤ suc (length (cond q (b ∷ keep is_digit (take n xs)) (keep is_digit (take n xs))))
    decide true h e r = omega (arith, r h (omega arith))
    decide false h e r = omega (arith, run_digits xs n (omega arith))

-- and with a number
one_point : (text : List ℕ) (p : ℕ) → OnePoint (number_at text p)
unfolding number_at number_end run_end
one_point text p = decide (eqb (byte text (run_end Digits text p)) 46)
  where
    decide : (q : Bool) → OnePoint (between text p (cond q (run_end Digits text (run_end Digits text p + 1)) (run_end Digits text p)))
    decide true =
        let j : ℕ = many Digits (drop p text) in
        let i : ℕ = many Digits (drop (p + j + 1) text) in
        let place : p + suc j ≡ p + j + 1 = omega arith in
        let same : drop (suc j) (drop p text) ≡ drop (p + j + 1) text = drop-drop (suc j) p text ∙ ap (λ (k : ℕ). drop k text) place in
        two_runs (drop p text) i (p + j + 1 + i - p) (le_of_eq (ap (many Digits) (sym same))) (omega arith)
    decide false = omega (arith, run_digits (drop p text) (p + many Digits (drop p text) - p) (omega arith))

-- the digits behind the point are digits
behind_few : (text : List ℕ) (p : ℕ) → digits_behind (number_at text p) ≤ length (digits (number_at text p))
unfolding digits_behind digits
behind_few text p = omega (arith, one_point text p)

-- ---- the value

ten_small : (k : ℕ) → k ≤ most_digits → (0 < 10 ^ k) × (10 ^ k ≤ 2 ^ prec binary64)
ten_small k h =
    let positive : 0 < 10 ^ k = one-le-pow k 10 (omega arith) in
    let most : 10 ^ k ≤ 10 ^ most_digits = pow-le-pow_right {n = 10} (omega arith) h in
    (positive, omega arith)

-- whole numbers up to 2 to the 53rd are held exactly
whole_exact : (n : ℕ) → n ≤ 2 ^ prec binary64 → HasValue (float n) false n 1
unfolding float Ieee.of_int
whole_exact n h = round_whole binary64 false n h

plain_number : (v : Float) → plain v ≡ true → is_nan v ≡ false
unfolding is_nan
plain_number nan e = absurd (true≢false (sym e))
plain_number (inf s) e = refl
plain_number (fin s m k) e = refl

-- a finite value of the format with the sign clear is a good literal
plain_good : (v : Float) → T (fits binary64 v) → plain v ≡ true → bad_literal v ≡ false
unfolding bad_literal
plain_good v h p = rw (plain_number v p) (lt-leb (ones binary64 * hid binary64) (to_bits binary64 v) (plain_bits v h p))

-- the value of a number of at most 15 digits is one that document 01 takes
pub good_value : (text : List ℕ) (p : ℕ) → length (digits (number_at text p)) ≤ most_digits → bad_literal (value_at text p) ≡ false
unfolding value_at digits
good_value text p h =
    let w : List ℕ = number_at text p in
    let m : ℕ = number_from 0 (keep is_digit w) in
    let k : ℕ = digits_behind w in
    let (positive, ten) = ten_small k (le_trans (behind_few text p) h) in
    let below : m < suc 0 * 10 ^ length (keep is_digit w) = digits_below 0 w in
    let (some-ten, all) = ten_small (length (keep is_digit w)) h in
    let small : m ≤ 2 ^ prec binary64 = omega (arith, below, all) in
    plain_good (Ieee.div binary64 (float m) (float (10 ^ k))) (div-fits binary64 (float m) (float (10 ^ k)))
    (plain_div (float m) (float (10 ^ k)) m (10 ^ k) (whole_exact m small) (whole_exact (10 ^ k) ten) positive small)

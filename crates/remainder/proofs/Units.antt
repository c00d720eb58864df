-- Laws of sizes: what the fields of a double's bits say, the rest of scaled sizes, and the remainder of two doubles by their sizes.
-- Assumes nothing.
use Prim.Native.Nat.{ℕ, zero, suc, ◌+◌, ◌-◌, ◌*◌, ◌/◌, ◌%◌, ◌^◌, ◌<◌, ◌≤◌}
use native.Mathlib.Nat.{eq-zero-or-pos, add_comm, zero-mul, div-add-mod, mod-lt, mod-eq_of_lt, mul-lt-mul_of_pos_right, mul-le-mul_right, mul-pos, mul_assoc, div-lt_iff_lt-mul, le-div_iff_mul-le}
use native.Mathlib.Omega.{arith}
use mathlib.Core.Path.{◌≡◌, refl, sym, ap, ◌∙◌, subst}
use mathlib.Core.Logic.{inl, inr}
use mathlib.Core.Bool.{Bool, true, false, cond, not}
use lib.Dec.{T, eqb, leb}
use lib.Pow.{pow-add, pow_pos, pow_mono}
use lib.IntN.{pos}
use borrow.Author.Tests.{ne_eqb, lt-leb}
use lib.Ieee.{Float, nan, inf, fin, binary64, up, down, odd, units, fits, of_fields, of_bits, to_bits, of_int, is_nan, round, mul, div, rem, ne}
use lib.Ieee.Exact.{HasValue, odd_sign}
use lib.Ieee.Fits.{up_pos, down_pos}
use lib.Ieee.Back.{round_whole}
use lib.Ieee.Bits.{of_bits-to_bits}
use lib.Ieee.Positive.{positive_of_value, mul_at}
use lib.Ieee.Scale.{round_same}
use Rattle.std.specs.Float.{is_sign_negative}
use Rattle.std.proofs.num.Patterns.{differs}
use Rattle.std.proofs.lemmas.Nat.{mod-mul-add, mul-mod_second}
use Rattle.remainder.specs.Units.{size_of}

-- ---- the fields of a double's bits

value_low : (s : Bool) (t : ℕ) → HasValue (of_fields binary64 s 0 t) s (t * 2 ^ 0) (2 ^ 1074)
unfolding of_fields
value_low s t = odd_sign 53 s t 0 1074

value_high : (s : Bool) (x t : ℕ) → suc x < 2047 → HasValue (of_fields binary64 s (suc x) t) s ((2 ^ 52 + t) * 2 ^ x) (2 ^ 1074)
unfolding of_fields
value_high s x t h =
    subst (λ (k : Bool). HasValue (cond k (cond (eqb t 0) (inf s) nan) (odd 53 s (2 ^ 52 + t) x 1074)) s ((2 ^ 52 + t) * 2 ^ x) (2 ^ 1074)) (sym (ne_eqb (suc x) 2047 (omega arith)))
    (odd_sign 53 s (2 ^ 52 + t) x 1074)

-- the size of the double with these bits, by its parts
pub size_low : (b : ℕ) → b / 2 ^ 52 ≡ 0 → (s : Bool) → HasValue (of_fields binary64 s (b / 2 ^ 52) (b % 2 ^ 52)) s (size_of b 0) (2 ^ 1074)
size_low b h s =
    let e : b % 2 ^ 52 ≡ b = omega arith in
    subst (λ (x : ℕ). HasValue (of_fields binary64 s x (b % 2 ^ 52)) s (size_of b 0) (2 ^ 1074)) (sym h)
    (subst (λ (t : ℕ). HasValue (of_fields binary64 s 0 t) s (size_of b 0) (2 ^ 1074)) (sym e) (value_low s b))

pub size_high : (b : ℕ) → (b / 2 ^ 52 ≡ 0 → ⊥) → b < 2047 * 2 ^ 52 → (s : Bool)
    → HasValue (of_fields binary64 s (b / 2 ^ 52) (b % 2 ^ 52)) s (size_of (b % 2 ^ 52 + 2 ^ 52) (b / 2 ^ 52 - 1)) (2 ^ 1074)
size_high b h l s =
    let e : suc (b / 2 ^ 52 - 1) ≡ b / 2 ^ 52 = omega arith in
    subst (λ (x : ℕ). HasValue (of_fields binary64 s x (b % 2 ^ 52)) s (size_of (b % 2 ^ 52 + 2 ^ 52) (b / 2 ^ 52 - 1)) (2 ^ 1074)) e
    (subst (λ (d : ℕ). HasValue (of_fields binary64 s (suc (b / 2 ^ 52 - 1)) (b % 2 ^ 52)) s (size_of d (b / 2 ^ 52 - 1)) (2 ^ 1074)) (add_comm (2 ^ 52) (b % 2 ^ 52))
    (value_high s (b / 2 ^ 52 - 1) (b % 2 ^ 52) (omega arith)))

-- ---- doubles and their bits

plain : (b : ℕ) → b < 2 ^ 63 → of_fields binary64 false (b / 2 ^ 52) (b % 2 ^ 52) ≡ of_bits binary64 b
unfolding of_bits
plain b h =
    let e : b % 2 ^ 63 ≡ b = omega arith in
    ap (λ (s : Bool). of_fields binary64 s (b / 2 ^ 52) (b % 2 ^ 52)) (sym (lt-leb (2 ^ 63) b h))
    ∙ ap (λ (z : ℕ). of_fields binary64 (leb (2 ^ 63) b) (z / 2 ^ 52) (b % 2 ^ 52)) (sym e)

pub power_low : (k b : ℕ) → k < 52 → b ≡ 2 ^ k → HasValue (of_bits binary64 b) false (2 ^ k) (2 ^ 1074)
power_low k b h e =
    let few : 2 ^ k ≤ 2 ^ 51 = pow_mono {i = k} {j = 51} (omega arith) in
    let v : b * 2 ^ 0 ≡ 2 ^ k = omega arith in
    subst (λ (x : Float). HasValue x false (2 ^ k) (2 ^ 1074)) (plain b (omega arith))
    (subst (λ (n : ℕ). HasValue (of_fields binary64 false (b / 2 ^ 52) (b % 2 ^ 52)) false n (2 ^ 1074)) v (size_low b (omega arith) false))

pub power_high : (k b : ℕ) → 52 ≤ k → k ≤ 2045 → b ≡ (k - 51) * 2 ^ 52 → HasValue (of_bits binary64 b) false (2 ^ k) (2 ^ 1074)
power_high k b h l e =
    let v : (b % 2 ^ 52 + 2 ^ 52) * 2 ^ (b / 2 ^ 52 - 1) ≡ 2 ^ k =
    let low : b % 2 ^ 52 + 2 ^ 52 ≡ 2 ^ 52 = omega arith in
    let high : b / 2 ^ 52 - 1 ≡ k - 52 = omega arith in
    let whole : 52 + (k - 52) ≡ k = omega arith in
    rw (low, high) (sym (pow-add 2 52 (k - 52)) ∙ ap (λ (z : ℕ). 2 ^ z) whole) in
    subst (λ (x : Float). HasValue x false (2 ^ k) (2 ^ 1074)) (plain b (omega arith))
    (subst (λ (n : ℕ). HasValue (of_fields binary64 false (b / 2 ^ 52) (b % 2 ^ 52)) false n (2 ^ 1074)) v (size_high b (omega arith) (omega arith) false))

-- what digits and a power of two make
pub product_is : (n k : ℕ) (p : Float) → 0 < n → n < 2 ^ 53 → HasValue p false (2 ^ k) (2 ^ 1074)
    → mul binary64 (of_int binary64 (pos n)) p ≡ round binary64 false (size_of n k) (2 ^ 1074)
unfolding of_int
product_is n k p h l v =
    let w : HasValue (round binary64 false n 1) false n 1 = round_whole binary64 false n (omega arith) in
    mul_at binary64 (round binary64 false n 1) p n 1 (2 ^ k) (2 ^ 1074) (positive_of_value (round binary64 false n 1) n 1 w h) (positive_of_value p (2 ^ k) (2 ^ 1074) v (pow_pos k)) (omega arith) (pow_pos 1074) w v

nothing : of_bits binary64 0 ≡ round binary64 false 0 (2 ^ 1074)
unfolding of_bits round units odd
nothing = refl

pub nothing_is : (n k : ℕ) → n ≡ 0 → of_bits binary64 0 ≡ round binary64 false (size_of n k) (2 ^ 1074)
nothing_is n k h =
    let e : 0 ≡ n * 2 ^ k = rw h (sym (zero-mul (2 ^ k))) in
    nothing ∙ ap (λ (z : ℕ). round binary64 false z (2 ^ 1074)) e

-- a double by the fields of its bits
pub as_fields : (x : Float) → T (fits binary64 x)
    → x ≡ of_fields binary64 (leb (2 ^ 63) (to_bits binary64 x)) (to_bits binary64 x % 2 ^ 63 / 2 ^ 52) (to_bits binary64 x % 2 ^ 63 % 2 ^ 52)
unfolding of_bits
as_fields x h =
    let b = to_bits binary64 x in
    let e : b % 2 ^ 52 ≡ b % 2 ^ 63 % 2 ^ 52 = omega arith in
    sym (of_bits-to_bits binary64 x h) ∙ ap (λ (t : ℕ). of_fields binary64 (leb (2 ^ 63) b) (b % 2 ^ 63 / 2 ^ 52) t) e

-- a double whose bits are below infinity's is finite
pub finite_is : (x : Float) → T (fits binary64 x) → to_bits binary64 x % 2 ^ 63 < 2047 * 2 ^ 52 → (a : ℕ) × HasValue x (leb (2 ^ 63) (to_bits binary64 x)) a (2 ^ 1074)
finite_is x h l =
    let b = to_bits binary64 x in
    let a = b % 2 ^ 63 in
    let s = leb (2 ^ 63) b in
    elim (eq-zero-or-pos (a / 2 ^ 52)) [
      | inl z ↦ (a * 2 ^ 0, subst (λ (y : Float). HasValue y s (a * 2 ^ 0) (2 ^ 1074)) (sym (as_fields x h)) (size_low a z s))
      | inr z ↦ ((a % 2 ^ 52 + 2 ^ 52) * 2 ^ (a / 2 ^ 52 - 1), subst (λ (y : Float). HasValue y s ((a % 2 ^ 52 + 2 ^ 52) * 2 ^ (a / 2 ^ 52 - 1)) (2 ^ 1074)) (sym (as_fields x h)) (size_high a (λ e. omega arith) l s))
    ]

-- and another one that is a number is infinite
pub infinite_is : (x : Float) → T (fits binary64 x) → T (not (is_nan x)) → 2047 * 2 ^ 52 ≤ to_bits binary64 x % 2 ^ 63 → (s : Bool) × (x ≡ inf s)
unfolding of_fields is_nan
infinite_is x h n l =
    let b = to_bits binary64 x in
    let e : b % 2 ^ 63 / 2 ^ 52 ≡ 2047 = omega arith in
    let f : x ≡ of_fields binary64 (leb (2 ^ 63) b) 2047 (b % 2 ^ 63 % 2 ^ 52) = as_fields x h ∙ ap (λ (k : ℕ). of_fields binary64 (leb (2 ^ 63) b) k (b % 2 ^ 63 % 2 ^ 52)) e in
    go (eqb (b % 2 ^ 63 % 2 ^ 52) 0) (leb (2 ^ 63) b) f
  where
    go : (k s : Bool) → x ≡ cond k (inf s) nan → (s : Bool) × (x ≡ inf s)
    go true s e = (s, e)
    go false s e = absurd (subst (λ (y : Float). T (not (is_nan y))) e n)

-- ---- rests

-- the rest of a scaled number by a divisor scaled alike
pub scaled : (a b c : ℕ) → 0 < b → 0 < c → a % b * c ≡ a * c % (b * c)
scaled a b c h k =
    let e : a * c ≡ a / b * (b * c) + a % b * c = omega (arith, ap (λ (z : ℕ). z * c) (div-add-mod a b)) in
    let l : a % b * c < b * c = mul-lt-mul_of_pos_right (mod-lt a h) k in
    sym (ap (λ (z : ℕ). z % (b * c)) e ∙ mod-mul-add (a / b) (b * c) (a % b * c) l)

-- of scaled digits by digits scaled less
pub scaled_less : (a i b k : ℕ) → 0 < b → k ≤ i → a * 2 ^ (i - k) % b * 2 ^ k ≡ size_of a i % size_of b k
scaled_less a i b k h l =
    let w : i - k + k ≡ i = omega arith in
    let e : a * 2 ^ (i - k) * 2 ^ k ≡ a * 2 ^ i = mul_assoc a (2 ^ (i - k)) (2 ^ k) ∙ ap (λ (z : ℕ). a * z) (sym (pow-add 2 (i - k) k) ∙ ap (λ (z : ℕ). 2 ^ z) w) in
    scaled (a * 2 ^ (i - k)) b (2 ^ k) h (pow_pos k) ∙ ap (λ (z : ℕ). z % (b * 2 ^ k)) e

-- and by digits scaled more, which are so many of the first's scale
more_digits : (b i k : ℕ) → i ≤ k → size_of b k ≡ b * 2 ^ (k - i) * 2 ^ i
more_digits b i k l =
    let w : k - i + i ≡ k = omega arith in
    sym (mul_assoc b (2 ^ (k - i)) (2 ^ i) ∙ ap (λ (z : ℕ). b * z) (sym (pow-add 2 (k - i) i) ∙ ap (λ (z : ℕ). 2 ^ z) w))

pub scaled_more : (a i b k d : ℕ) → 0 < b → i ≤ k → d ≡ b * 2 ^ (k - i) → size_of (a % d) i ≡ size_of a i % size_of b k
scaled_more a i b k d h l e =
    rw (e, more_digits b i k l) (scaled a (b * 2 ^ (k - i)) (2 ^ i) (mul-pos h (pow_pos (k - i))) (pow_pos i))

-- a divisor above is left out
pub left_out : (a i b k : ℕ) → i ≤ k → a < b * 2 ^ (k - i) → size_of a i ≡ size_of a i % size_of b k
left_out a i b k l h = sym (mod-eq_of_lt (subst (λ (z : ℕ). size_of a i < z) (sym (more_digits b i k l)) (mul-lt-mul_of_pos_right h (pow_pos i))))

pub far_above : (a b n : ℕ) → a < 2 ^ 53 → 0 < b → 53 ≤ n → a < b * 2 ^ n
far_above a b n h k l =
    let m : 2 ^ 53 ≤ 2 ^ n = pow_mono {i = 53} {j = n} (omega arith) in
    let some : 1 * 2 ^ n ≤ b * 2 ^ n = mul-le-mul_right (2 ^ n) (omega arith) in
    omega arith

pub above_quotient : (a b n : ℕ) → a / 2 ^ n < b → a < b * 2 ^ n
above_quotient a b n h = (div-lt_iff_lt-mul (pow_pos n)).0 h

pub below_quotient : (a b n : ℕ) → b ≤ a / 2 ^ n → b * 2 ^ n ≤ a
below_quotient a b n h = (le-div_iff_mul-le (pow_pos n)).0 h

-- one digit more
pub digit_more : (a i d : ℕ) → 2 * (size_of a i % d) % d ≡ size_of a (i + 1) % d
digit_more a i d =
    let e : 2 * (a * 2 ^ i) ≡ a * 2 ^ (i + 1) = omega (arith, ap (λ (z : ℕ). a * z) (pow-add 2 i 1)) in
    mul-mod_second 2 (a * 2 ^ i) d ∙ ap (λ (z : ℕ). z % d) e

-- ---- the remainder

-- what has a size above 0 is above 0
zero_or : (x l r : ℕ) → 0 < r → x * l ≡ r → 0 < x
zero_or zero l r h e = omega arith
zero_or (suc x) l r h e = omega arith

-- of two fractions over the same unit
over : (m u d n v e l a b : ℕ) → 0 < l → 0 < d * e → 0 < b → m * u * l ≡ a * d → n * v * l ≡ b * e
    → m * u * e % (n * v * d) * l ≡ a % b * (d * e)
over m u d n v e l a b L D B p q =
    let top : m * u * e * l ≡ a * (d * e) = omega (arith, ap (λ (z : ℕ). z * e) p) in
    let bottom : n * v * d * l ≡ b * (d * e) = omega (arith, ap (λ (z : ℕ). z * d) q) in
    let some : 0 < n * v * d = zero_or (n * v * d) l (b * (d * e)) (mul-pos B D) bottom in
    scaled (m * u * e) (n * v * d) l some L ∙ rw (top, bottom) (sym (scaled a b (d * e) B D))

nonzero : (n v d b l : ℕ) → 0 < b → 0 < d → n * v * l ≡ b * d → eqb n 0 ≡ false
nonzero zero v d b l B D q = absurd (omega (arith, mul-pos B D))
nonzero (suc n) v d b l B D q = ne_eqb (suc n) 0 (omega arith)

-- the remainder of two doubles is that of their sizes, with the sign of the first
pub rem_is : (x y : Float) (s t : Bool) (a b l : ℕ) → 0 < l → 0 < b → HasValue x s a l → HasValue y t b l → rem binary64 x y ≡ round binary64 s (a % b) l
unfolding rem
rem_is nan y s t a b l L B p q = absurd p
rem_is (inf k) y s t a b l L B p q = absurd p
rem_is (fin k m e) nan s t a b l L B p q = absurd q
rem_is (fin k m e) (inf j) s t a b l L B p q = absurd q
rem_is (fin k m e) (fin j n d) s t a b l L B p q =
    rw (nonzero n (up d) (down d) b l B (down_pos d) q.1, p.0)
    (round_same binary64 s (m * up e * down d % (n * up d * down e)) (down e * down d) (a % b) l (mul-pos (down_pos e) (down_pos d)) L
    (over m (up e) (down e) n (up d) (down d) l a b L (mul-pos (down_pos e) (down_pos d)) B p.1 q.1))

pub of_infinite : (x y : Float) (s : Bool) → x ≡ inf s → div binary64 (of_bits binary64 0) (of_bits binary64 0) ≡ rem binary64 x y
unfolding rem div of_bits
of_infinite x y s e = ap (λ (z : Float). rem binary64 z y) (sym e)

pub by_infinite : (x y : Float) (s t : Bool) (a l : ℕ) → HasValue x s a l → y ≡ inf t → x ≡ rem binary64 x y
unfolding rem
by_infinite nan y s t a l p e = absurd p
by_infinite (inf k) y s t a l p e = absurd p
by_infinite (fin k m d) y s t a l p e = ap (λ (z : Float). rem binary64 (fin k m d) z) (sym e)

pub by_zero : (x y : Float) (s t : Bool) (a b l : ℕ) → 0 < l → b ≡ 0 → HasValue x s a l → HasValue y t b l → div binary64 (of_bits binary64 0) (of_bits binary64 0) ≡ rem binary64 x y
unfolding rem div of_bits
by_zero nan y s t a b l L z p q = absurd p
by_zero (inf k) y s t a b l L z p q = absurd p
by_zero (fin k m e) nan s t a b l L z p q = absurd q
by_zero (fin k m e) (inf j) s t a b l L z p q = absurd q
by_zero (fin k m e) (fin j zero d) s t a b l L z p q = refl
by_zero (fin k m e) (fin j (suc n) d) s t a b l L z p q =
    let some : 0 < suc n * up d * l = mul-pos (mul-pos (omega arith) (up_pos d)) L in
    absurd (omega (arith, q.1, ap (λ (c : ℕ). c * down d) z))

pub sign_is : (x : Float) (s : Bool) (a l : ℕ) → HasValue x s a l → is_sign_negative x ≡ s
unfolding is_sign_negative
sign_is nan s a l p = absurd p
sign_is (inf k) s a l p = absurd p
sign_is (fin k m e) s a l p = p.0

only_nan : (y : Float) → is_nan y ≡ true → y ≡ nan
unfolding is_nan
only_nan nan e = refl
only_nan (inf s) e = cc
only_nan (fin s m d) e = cc

-- what is not equal to itself is the NaN
pub not_itself : (x : Float) → ne x x ≡ true → x ≡ nan
not_itself x h = only_nan x (sym (differs x) ∙ h)

pub nan_first : (x y : Float) → x ≡ nan → x ≡ rem binary64 x y
unfolding rem
nan_first x y e = e ∙ ap (λ (z : Float). rem binary64 z y) (sym e)

by_nan : (w : Float) → nan ≡ rem binary64 w nan
unfolding rem
by_nan nan = refl
by_nan (inf s) = refl
by_nan (fin s m d) = refl

pub nan_second : (x y : Float) → y ≡ nan → y ≡ rem binary64 x y
nan_second x y e = e ∙ by_nan x ∙ ap (λ (z : Float). rem binary64 x z) (sym e)

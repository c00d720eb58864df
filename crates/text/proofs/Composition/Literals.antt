-- Literals: a value keeps its number while the list of literals grows, since no value of a literal without faults is a NaN.
-- Assumes nothing.
use Prim.Native.Nat.{ℕ, zero, suc, ◌+◌, ◌-◌, ◌*◌, ◌^◌, ◌≤◌, ◌<◌}
use mathlib.Core.Path.{◌≡◌, refl, sym, ◌∙◌, ap, subst}
use mathlib.Core.Bool.{Bool, true, false, ◌&&◌, ◌||◌, not, cond}
use mathlib.Core.List.{List, [], ◌∷◌, ◌++◌, append-nil, append_assoc}
use mathlib.Core.Logic.{⊎_elim}
use native.Mathlib.Nat.{add-zero, pow-suc, pow-le-pow_right, one-le-pow}
use native.Mathlib.Omega.{arith}
use lib.Dec.{T, eqb, ltb, eqb→eq, ltb→lt}
use Rattle.decimal.proofs.Decimals.{digit_range}
use lib.ListN.{length}
use lib.IntN.{pos}
use lib.Ieee.{Float, nan, inf, fin, Format, binary64, prec, is_nan, up, down, odd, units, round, unlike}
use lib.Ieee as Ieee
use lib.Ieee.Exact.{HasValue}
use lib.Ieee.Back.{round_whole}
use lib.Ieee.Order.{round_mono}
use lib.Ieee.Fits.{down_pos, round_is}
use borrow.Author.Tests.{ltb-false, lt-ltb, le-ltb, eqb-true}
use Rattle.meaning.specs.Lists.{keep}
use Rattle.meaning.specs.Meaning.{float}
use Rattle.meaning.proofs.Bools.{lt_or_ge, and_l, and_r, or_e}
use Rattle.meaning.proofs.Numbers.{equals_itself}
use Rattle.decimal.specs.Decimal.{is_digit, number_from}
use Rattle.decimal.specs.Decimal as Decimal
use Rattle.text.specs.Limited.{Source, place, digits, number_at, digits_behind, most_digits, value_at, fault, digit_faults}
use Rattle.text.specs.Reading.{index_of, with, distinct}

-- ---- a list of literals only grows

-- l stands at the front of m
pub record Front (l m : List Float) : Type 0 where
  pub more : List Float
  pub whole : l ++ more ≡ m

pub front_all : (l : List Float) → Front l l
front_all l = record { more = []; whole = append-nil l }

front_trans : {l m o : List Float} → Front l m → Front m o → Front l o
front_trans {l} f g = record {
  more = f.more ++ g.more;
  whole = sym (append_assoc l f.more g.more) ∙ (ap (λ (x : List Float). x ++ g.more) f.whole ∙ g.whole);
}

with_front : (l : List Float) (v : Float) → Front l (with l v)
unfolding with
with_front l v = by (ltb (index_of l v) (length l))
  where
    by : (b : Bool) → Front l (cond b l (l ++ (v ∷ [])))
    by true = front_all l
    by false = record { more = v ∷ []; whole = refl }

distinct_front : (l vs : List Float) → Front l (distinct l vs)
unfolding distinct
distinct_front l [] = front_all l
distinct_front l (v ∷ vs) = front_trans (with_front l v) (distinct_front (with l v) vs)

pub distinct_append : (l vs ws : List Float) → distinct l (vs ++ ws) ≡ distinct (distinct l vs) ws
unfolding distinct
distinct_append l [] ws = refl
distinct_append l (v ∷ vs) ws = distinct_append (with l v) vs ws

-- the literals of a text's first values stand at the front of those of all of them
pub front_first : {m : List Float} (l vs ws : List Float) → Front (distinct l (vs ++ ws)) m → Front (distinct l vs) m
front_first {m} l vs ws f =
    front_trans (distinct_front (distinct l vs) ws) (subst (λ (x : List Float). Front x m) (distinct_append l vs ws) f)

pub front_second : {m : List Float} (l vs ws : List Float) → Front (distinct l (vs ++ ws)) m → Front (distinct (distinct l vs) ws) m
front_second {m} l vs ws f = subst (λ (x : List Float). Front x m) (distinct_append l vs ws) f

-- ---- a value's number

index_found : (l more : List Float) (v : Float) → index_of l v < length l → index_of (l ++ more) v ≡ index_of l v
unfolding index_of
index_found [] more v h = absurd (omega arith)
index_found (y ∷ l) more v h = by (Ieee.eq y v) (index_found l more v) h
  where
    by : (b : Bool) → (index_of l v < length l → index_of (l ++ more) v ≡ index_of l v) → cond b 0 (suc (index_of l v)) < suc (length l)
        → cond b 0 (suc (index_of (l ++ more) v)) ≡ cond b 0 (suc (index_of l v))
    by true ih h = refl
    by false ih h = ap suc (ih (omega arith))

index_added : (l more : List Float) (v : Float) → Ieee.eq v v ≡ true → length l ≤ index_of l v → index_of (l ++ (v ∷ more)) v ≡ index_of l v
unfolding index_of
index_added [] more v e h = rw e
index_added (y ∷ l) more v e h = by (Ieee.eq y v) (index_added l more v e) h
  where
    by : (b : Bool) → (length l ≤ index_of l v → index_of (l ++ (v ∷ more)) v ≡ index_of l v) → suc (length l) ≤ cond b 0 (suc (index_of l v))
        → cond b 0 (suc (index_of (l ++ (v ∷ more)) v)) ≡ cond b 0 (suc (index_of l v))
    by true ih h = refl
    by false ih h = ap suc (ih (omega arith))

-- the number that a value gets is its number among all literals
pub index_settled : (l m : List Float) (v : Float) → Ieee.eq v v ≡ true → Front (with l v) m → index_of l v ≡ index_of m v
unfolding with
index_settled l m v e f = ⊎_elim old new (lt_or_ge (index_of l v) (length l))
  where
    old : index_of l v < length l → index_of l v ≡ index_of m v
    old h =
        let g : Front l m = subst (λ (b : Bool). Front (cond b l (l ++ (v ∷ []))) m) (lt-ltb (index_of l v) (length l) h) f in
        sym (index_found l g.more v h) ∙ ap (λ (x : List Float). index_of x v) g.whole

    new : length l ≤ index_of l v → index_of l v ≡ index_of m v
    new h =
        let g : Front (l ++ (v ∷ [])) m = subst (λ (b : Bool). Front (cond b l (l ++ (v ∷ []))) m) (le-ltb (index_of l v) (length l) h) f in
        sym (index_added l g.more v e h)
        ∙ ap (λ (x : List Float). index_of x v) (sym (append_assoc l (v ∷ []) g.more) ∙ g.whole)

-- ---- no value is a NaN

odd_number : (d : ℕ) (s : Bool) (q k l : ℕ) → is_nan (odd d s q k l) ≡ false
unfolding odd is_nan
odd_number d s zero k l = refl
odd_number d s (suc q) k l = refl

units_number : (f : Format) (s : Bool) (q k : ℕ) → is_nan (units f s q k) ≡ false
unfolding units is_nan
units_number f s q k = by (ltb (q * 2 ^ k) (2 ^ (Ieee.low f + suc (Ieee.emax f))))
  where
    by : (b : Bool) → is_nan (cond b (odd (suc (prec f)) s q k (Ieee.low f)) (inf s)) ≡ false
    by true = odd_number (suc (prec f)) s q k (Ieee.low f)
    by false = refl

round_number : (f : Format) (s : Bool) (n d : ℕ) → is_nan (round f s n d) ≡ false
round_number f s n d = ap is_nan (round_is f s n d) ∙ units_number f s _ _

-- what is above zero is neither below zero nor zero
above_zero : (t : Bool) (a b : ℕ) → 0 < a → b ≡ 0 → T (Ieee.below false a t b || Ieee.level false a t b) → ⊥
above_zero true a b p z h = by (and_r (eqb a b) (eqb a 0) h)
  where
    by : T (eqb a 0) → ⊥
    by h = let e : a ≡ 0 = eqb→eq a 0 h in omega arith
above_zero false a b p z h =
    or_e (ltb a b) (eqb a b && true) h (λ l. let q : a < b = ltb→lt a b l in omega arith)
    (λ l. let q : a ≡ b = eqb→eq a b (and_l (eqb a b) true l) in omega arith)

-- a finite number over one that is 1 or more
over_number : (x y : Float) (n : ℕ) → HasValue x false n 1 → T (Ieee.le (fin false 1 (pos 0)) y) → is_nan (Ieee.div binary64 x y) ≡ false
unfolding Ieee.div is_nan Ieee.le Ieee.lt Ieee.eq
over_number nan y n h l = absurd h
over_number (inf s) y n h l = absurd h
over_number (fin s m e) nan n h l = absurd l
over_number (fin s m e) (inf t) n h l = refl
over_number (fin s m e) (fin t k d) n h l = by (eqb k 0) refl
  where
    none : k ≡ 0 → ⊥
    none z =
        above_zero t (1 * up (pos 0) * down d) (k * up d * down (pos 0)) (let p : 0 < down d = down_pos d in omega arith)
        (rw z (omega arith)) l

    by : (b : Bool) → eqb k 0 ≡ b
        → is_nan (cond b (cond (eqb m 0) nan (inf (unlike s t))) (round binary64 (unlike s t) (m * up e * down d) (k * up d * down e))) ≡ false
    by true q = absurd (none (eqb-true k 0 q))
    by false q = round_number binary64 (unlike s t) (m * up e * down d) (k * up d * down e)

-- digits say a number below that power of ten
number_below : (n k : ℕ) (s : List ℕ) → n < 10 ^ k → number_from n (keep is_digit s) < 10 ^ (k + length (keep is_digit s))
unfolding number_from keep
number_below n k [] h = rw (add-zero k) h
number_below n k (b ∷ s) h = by (is_digit b) refl (number_below n k s h) (number_below (10 * n + (b - 48)) (suc k) s)
  where
    Below : ℕ → ℕ → Type 0
    Below n k = number_from n (keep is_digit s) < 10 ^ (k + length (keep is_digit s))

    by :
        (c : Bool) → is_digit b ≡ c → Below n k → (10 * n + (b - 48) < 10 ^ suc k → Below (10 * n + (b - 48)) (suc k))
        → number_from n (cond c (b ∷ keep is_digit s) (keep is_digit s)) < 10 ^ (k + length (cond c (b ∷ keep is_digit s) (keep is_digit s)))
    by false e same more = same
    by true e same more =
        let d : (48 ≤ b) × (b ≤ 57) = digit_range b e in
        let p : 10 ^ suc k ≡ 10 ^ k * 10 = pow-suc 10 k in
        let few : 10 * n + (b - 48) < 10 ^ suc k = omega (arith, d.0, d.1) in
        let q : suc k + length (keep is_digit s) ≡ k + suc (length (keep is_digit s)) = omega arith in
        subst (λ (j : ℕ). number_from (10 * n + (b - 48)) (keep is_digit s) < 10 ^ j) q (more few)

value_number : (text : List ℕ) (p : ℕ) → length (digits (number_at text p)) ≤ most_digits → is_nan (value_at text p) ≡ false
unfolding value_at digits float Ieee.of_int
value_number text p h =
    let n : ℕ = Decimal.number (keep is_digit (number_at text p)) in
    let few : n < 10 ^ (0 + length (keep is_digit (number_at text p))) = number_below 0 0 (number_at text p) (omega arith) in
    let most : 10 ^ (0 + length (keep is_digit (number_at text p))) ≤ 10 ^ 15 =
    pow-le-pow_right {n = 10} (omega arith) {j = 15} (omega arith) in
    let one : 1 ≤ 10 ^ digits_behind (number_at text p) = one-le-pow (digits_behind (number_at text p)) 10 (omega arith) in
    over_number (round binary64 false n 1) (round binary64 false (10 ^ digits_behind (number_at text p)) 1) n
    (round_whole binary64 false n (omega arith))
    (round_mono binary64 1 1 (10 ^ digits_behind (number_at text p)) 1 (omega arith) (omega arith) (omega arith))

-- a literal without faults equals itself
pub value_equal : (s : Source) (i : ℕ) → digit_faults s i ≡ [] → Ieee.eq (value_at s.text (place s i)) (value_at s.text (place s i)) ≡ true
unfolding digit_faults
value_equal s i e =
    equals_itself _
    ∙ ap not (value_number s.text (place s i) (by (ltb most_digits (length (digits (number_at s.text (place s i))))) refl e))
  where
    by :
        (b : Bool) → ltb most_digits (length (digits (number_at s.text (place s i)))) ≡ b → cond b (fault s 25 i) [] ≡ []
        → length (digits (number_at s.text (place s i))) ≤ most_digits
    by true q f = absurd (let z : ◌≡◌ {A = ℕ} 0 1 = cc in omega arith)
    by false q f = ltb-false _ _ q

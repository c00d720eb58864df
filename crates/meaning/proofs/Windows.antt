-- What holds at some row of a window: the rows below a row, the rows above it, one row, a row or others; and what
-- comes after a row as a window, a bound on row numbers alone. A pass over the rows knows of the rows behind it, so it knows a window.
-- Assumes nothing.
use Prim.Native.Nat.{ℕ, zero, suc, ◌+◌, ◌-◌, ◌<◌, ◌≤◌}
use mathlib.Core.Path.{◌≡◌, refl, sym, ap, ◌∙◌}
use mathlib.Core.Logic.{⊎_elim}
use mathlib.Core.Bool.{Bool, true, false, ◌&&◌, ◌||◌, cond, and-true, and-false, and_comm, or-true, or-false, and-or_distrib_left, and-or_distrib_right}
use mathlib.Core.List.{List, [], ◌∷◌, ◌++◌}
use lib.Dec.{leb, ltb, eqb}
use native.Mathlib.Omega.{arith}
use borrow.Author.Tests.{eq-eqb, ne_eqb, lt-ltb, le-ltb, le-leb, lt-leb}
use Rattle.meaning.specs.Lists.{keep, some, up_to}
use Rattle.meaning.specs.Table.{end}
use Rattle.meaning.specs.Axis.{inside, after}
use Rattle.meaning.proofs.Bools.{eqb_sym, lt_or_ge, eq_or_ne}
use Rattle.meaning.proofs.Lists.{some_members, some_append, some_same, some_last, has_up_to_to, none_below}

-- ---- some number of a window

-- tests that agree below n hold at some number below n alike
pub some_below : (p q : ℕ → Bool) (n : ℕ) → ((x : ℕ) → x < n → p x ≡ q x) → some p (up_to n) ≡ some q (up_to n)
some_below p q n h = some_members p q (up_to n) (λ x m. h x (has_up_to_to n x m))

-- one test or the other
pub some_or : (p q : ℕ → Bool) (l : List ℕ) → some (λ x. p x || q x) l ≡ (some p l || some q l)
unfolding some
some_or p q [] = refl
some_or p q (x ∷ xs) = rw (some_or p q xs) (mix (p x) (q x) (some p xs) (some q xs))
  where
    mix : (a b c d : Bool) → ((a || b) || (c || d)) ≡ ((a || c) || (b || d))
    mix true b c d = refl
    mix false true c d = rw (or-true c)
    mix false false c d = refl

-- a test and a fact that is the same for all
pub some_and : (p : ℕ → Bool) (b : Bool) (l : List ℕ) → some (λ x. p x && b) l ≡ (some p l && b)
unfolding some
some_and p b [] = refl
some_and p b (x ∷ xs) = rw (some_and p b xs) (sym (and-or_distrib_right (p x) (some p xs) b))

-- a test of what is kept
pub some_keep : (p q : ℕ → Bool) (l : List ℕ) → some p (keep q l) ≡ some (λ x. q x && p x) l
unfolding some keep
some_keep p q [] = refl
some_keep p q (x ∷ xs) = by (q x) (some_keep p q xs)
  where
    by : (b : Bool) → some p (keep q xs) ≡ some (λ x. q x && p x) xs → some p (cond b (x ∷ keep q xs) (keep q xs)) ≡ ((b && p x) || some (λ x. q x && p x) xs)
    by true h = rw h
    by false h = h

-- the one number k
pub some_at : (f : ℕ → Bool) (n k : ℕ) → k < n → some (λ x. f x && eqb x k) (up_to n) ≡ f k
some_at f zero k h = absurd (omega arith)
some_at f (suc n) k h =
    some_last (λ x. f x && eqb x k) n
    ∙ ⊎_elim
    (λ l. rw (some_at f n k l, ne_eqb n k (λ e. absurd (omega arith)), and-false (f n), or-false (f k)))
    (λ l.
    let e : n ≡ k = omega arith in
    let z : some (λ x. f x && eqb x k) (up_to n) ≡ false = none_below (λ x. f x && eqb x k) n (λ x m. rw (ne_eqb x k (λ e. absurd (omega arith))) (and-false (f x))) in
    rw (z, e, eq-eqb k k refl, and-true (f k)))
    (lt_or_ge k n)

-- what is kept is the one number k
pub some_one : (f : ℕ → Bool) (n k : ℕ) → k < n → some f (keep (eqb k) (up_to n)) ≡ f k
some_one f n k h =
    some_keep f (eqb k) (up_to n)
    ∙ some_same (λ x. eqb k x && f x) (λ x. f x && eqb x k) (up_to n) (λ x. rw (eqb_sym k x) (and_comm (eqb x k) (f x)))
    ∙ some_at f n k h

-- the number k, or others
pub some_at_or : (f g : ℕ → Bool) (n k : ℕ) → k < n → some (λ x. f x && (eqb x k || g x)) (up_to n) ≡ (f k || some (λ x. f x && g x) (up_to n))
some_at_or f g n k h =
    some_same (λ x. f x && (eqb x k || g x)) (λ x. (f x && eqb x k) || (f x && g x)) (up_to n) (λ x. and-or_distrib_left (f x) (eqb x k) (g x))
    ∙ some_or (λ x. f x && eqb x k) (λ x. f x && g x) (up_to n)
    ∙ rw (some_at f n k h)

-- of the numbers below n those below y
pub window_below : (r : ℕ → Bool) (n y : ℕ) → y ≤ n → some (λ x. ltb x y && r x) (up_to n) ≡ some r (up_to y)
window_below r zero y h = let e : y ≡ 0 = omega arith in rw e (unfold up_to some in refl)
window_below r (suc n) y h =
    ⊎_elim
    (λ e. rw e (some_below (λ x. ltb x (suc n) && r x) r (suc n) (λ x l. rw (lt-ltb x (suc n) l))))
    (λ e. some_last (λ x. ltb x y && r x) n ∙ rw (le-ltb n y (omega arith), or-false (some (λ x. ltb x y && r x) (up_to n))) (window_below r n y (omega arith)))
    (eq_or_ne y (suc n))

-- i, i + 1, .. i + k - 1
unfoldable pub up_from : ℕ → ℕ → List ℕ
up_from i zero = []
up_from i (suc k) = i ∷ up_from (suc i) k

up_from_last : (i k : ℕ) → up_from i (suc k) ≡ up_from i k ++ ((i + k) ∷ [])
unfolding up_from
up_from_last i zero = let e : i + 0 ≡ i = omega arith in rw e
up_from_last i (suc k) = let e : i + suc k ≡ suc i + k = omega arith in rw e (ap (λ (l : List ℕ). i ∷ l) (up_from_last (suc i) k))

some_up_from_last : (r : ℕ → Bool) (i k : ℕ) → some r (up_from i (suc k)) ≡ (some r (up_from i k) || r (i + k))
unfolding some
some_up_from_last r i k = rw (up_from_last i k, some_append r (up_from i k) ((i + k) ∷ []), or-false (r (i + k)))

-- of the numbers below n those above y
pub window_above : (r : ℕ → Bool) (n y : ℕ) → some (λ x. ltb y x && r x) (up_to n) ≡ some r (up_from (y + 1) (n - (y + 1)))
unfolding up_from
window_above r zero y = let e : 0 - (y + 1) ≡ 0 = omega arith in rw e (unfold up_to some in refl)
window_above r (suc n) y =
    ⊎_elim
    (λ l.
    let e : suc n - (y + 1) ≡ suc (n - (y + 1)) = omega arith in
    let f : y + 1 + (n - (y + 1)) ≡ n = omega arith in
    some_last (λ x. ltb y x && r x) n
    ∙ rw (e, lt-ltb y n l, window_above r n y) (sym (some_up_from_last r (y + 1) (n - (y + 1)) ∙ rw f)))
    (λ l.
    let e : suc n - (y + 1) ≡ 0 = omega arith in
    let f : n - (y + 1) ≡ 0 = omega arith in
    some_last (λ x. ltb y x && r x) n
    ∙ rw (le-ltb y n l, or-false (some (λ x. ltb y x && r x) (up_to n)), e) (rw f at (window_above r n y)))
    (lt_or_ge y n)

-- ---- what comes after, as a window

pub leb_ltb : (a b : ℕ) → leb a b ≡ ltb a (b + 1)
leb_ltb a b = ⊎_elim (λ l. rw (lt-leb a b l, le-ltb a (b + 1) (omega arith))) (λ l. rw (le-leb a b l, lt-ltb a (b + 1) (omega arith))) (lt_or_ge b a)

-- what comes after a node begins past the end of its subtree
pub after_is : (t : List ℕ) (x y : ℕ) → after t x y ≡ ltb (end t x) y
unfolding after inside
after_is t x y =
    ⊎_elim
    (λ l. rw (lt-ltb x y (omega arith), lt-leb y (end t x) l, lt-ltb (end t x) y l))
    (λ l. ⊎_elim
    (λ m. rw (lt-ltb x y m, le-leb y (end t x) l, le-ltb (end t x) y l))
    (λ m. rw (le-ltb x y m, le-ltb (end t x) y l))
    (lt_or_ge x y))
    (lt_or_ge (end t x) y)

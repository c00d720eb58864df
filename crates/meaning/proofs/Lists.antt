-- Laws of lists of numbers: members, what is kept of a list, the orders of rows, lists in order, the lowest number at which a test holds.
-- Assumes nothing.
use Prim.Native.Nat.{ℕ, zero, suc, ◌+◌, ◌-◌, ◌<◌, ◌≤◌}
use mathlib.Core.Path.{◌≡◌, refl, sym, subst, ap, ◌∙◌}
use mathlib.Core.Logic.{inl, inr, ⊎_elim}
use mathlib.Core.Bool.{Bool, true, false, ◌&&◌, ◌||◌, cond, or_assoc, or-false, or_comm}
use mathlib.Core.List.{List, [], ◌∷◌, ◌++◌, append-nil}
use lib.Dec.{T, ltb, eqb, eqb→eq, eqb_refl}
use lib.ListN.{length, get_or, take, drop, replicate, length-append, length-take, length-drop, take-append-drop, get_or-append}
use lib.Seq.{get_or_at, get_or-take, get_or-drop, slice}
use native.Mathlib.Omega.{arith}
use native.Mathlib.Nat.{eq-or-lt_of_le}
use native.Mathlib.Numerals.{add-one}
use borrow.Author.Tests.{lt-ltb, le-ltb, eq-eqb, ne_eqb, ltb-true, ltb-false}
use Rattle.meaning.specs.Lists.{keep, some, has, up_to, down_from, place_from, lowest}
use Rattle.meaning.specs.Axis.{ordered}
use Rattle.meaning.specs.Meaning.{keep_at}
use Rattle.meaning.proofs.Bools.{and_l, and_r, and_i, or_e, or_i_l, or_i_r, eq→eqb, truly, is_false, untrue, same, lt_or_ge, eq_or_ne}

-- what is read of a list of one value, past its end too, is that value
pub one_value : {A : Type 0} (n i : ℕ) (d : A) → get_or (replicate n d) i d ≡ d
one_value zero i d = refl
one_value (suc n) zero d = refl
one_value (suc n) (suc i) d = one_value n i d

-- ---- members

pub some_to : (p : ℕ → Bool) (l : List ℕ) → T (some p l) → (z : ℕ) × T (p z) × T (has l z)
unfolding some
some_to p [] h = absurd h
some_to p (x ∷ xs) h = or_e (p x) (some p xs) h
    (λ k. (x, k, or_i_l (eqb x x) (some (eqb x) xs) (eqb_refl x)))
    (λ k. let r : (z : ℕ) × T (p z) × T (has xs z) = some_to p xs k in (r.0, r.1, or_i_r (eqb r.0 x) (some (eqb r.0) xs) r.2))

pub some_from : (p : ℕ → Bool) (l : List ℕ) (z : ℕ) → T (p z) → T (has l z) → T (some p l)
unfolding some
some_from p [] z h k = k
some_from p (x ∷ xs) z h k = or_e (eqb z x) (some (eqb z) xs) k
    (λ e. or_i_l (p x) (some p xs) (subst (λ (w : ℕ). T (p w)) (eqb→eq z x e) h))
    (λ m. or_i_r (p x) (some p xs) (some_from p xs z h m))

-- tests that agree on the members hold at some member alike
pub some_members : (p q : ℕ → Bool) (l : List ℕ) → ((x : ℕ) → T (has l x) → p x ≡ q x) → some p l ≡ some q l
unfolding some
some_members p q [] h = refl
some_members p q (x ∷ xs) h = rw (h x (or_i_l (eqb x x) (some (eqb x) xs) (eqb_refl x)), some_members p q xs (λ z k. h z (or_i_r (eqb z x) (some (eqb z) xs) k)))

pub some_same : (p q : ℕ → Bool) (l : List ℕ) → ((x : ℕ) → p x ≡ q x) → some p l ≡ some q l
some_same p q l h = some_members p q l (λ x k. h x)

has_cond : (b : Bool) (x : ℕ) (l : List ℕ) (y : ℕ) → has (cond b (x ∷ l) l) y ≡ ((b && eqb y x) || has l y)
unfolding some
has_cond true x l y = refl
has_cond false x l y = refl

pub has_keep_from : (p : ℕ → Bool) (l : List ℕ) (y : ℕ) → T (p y) → T (has l y) → T (has (keep p l) y)
unfolding some keep
has_keep_from p [] y h k = k
has_keep_from p (x ∷ xs) y h k = subst T (sym (has_cond (p x) x (keep p xs) y)) (or_e (eqb y x) (some (eqb y) xs) k
    (λ e. or_i_l (p x && eqb y x) (has (keep p xs) y) (and_i (p x) (eqb y x) (subst (λ (w : ℕ). T (p w)) (eqb→eq y x e) h) e))
    (λ m. or_i_r (p x && eqb y x) (has (keep p xs) y) (has_keep_from p xs y h m)))

pub has_keep_to : (p : ℕ → Bool) (l : List ℕ) (y : ℕ) → T (has (keep p l) y) → T (p y) × T (has l y)
unfolding some keep
has_keep_to p [] y h = absurd h
has_keep_to p (x ∷ xs) y h = or_e (p x && eqb y x) (has (keep p xs) y) (subst T (has_cond (p x) x (keep p xs) y) h)
    (λ k. (subst (λ (w : ℕ). T (p w)) (sym (eqb→eq y x (and_r (p x) (eqb y x) k))) (and_l (p x) (eqb y x) k), or_i_l (eqb y x) (some (eqb y) xs) (and_r (p x) (eqb y x) k)))
    (λ k. let r : T (p y) × T (has xs y) = has_keep_to p xs y k in (r.0, or_i_r (eqb y x) (some (eqb y) xs) r.1))

pub has_keep : (p : ℕ → Bool) (l : List ℕ) (y : ℕ) → has (keep p l) y ≡ (has l y && p y)
has_keep p l y = same (has (keep p l) y) (has l y && p y)
    (λ h. let r : T (p y) × T (has l y) = has_keep_to p l y h in and_i (has l y) (p y) r.1 r.0)
    (λ h. has_keep_from p l y (and_r (has l y) (p y) h) (and_l (has l y) (p y) h))

pub some_append : (p : ℕ → Bool) (xs ys : List ℕ) → some p (xs ++ ys) ≡ (some p xs || some p ys)
unfolding some
some_append p [] ys = refl
some_append p (x ∷ xs) ys = rw (some_append p xs ys) (sym (or_assoc (p x) (some p xs) (some p ys)))

-- ---- numbers below n, up and down

pub some_last : (p : ℕ → Bool) (n : ℕ) → some p (up_to (suc n)) ≡ (some p (up_to n) || p n)
unfolding up_to some
some_last p n = rw (some_append p (up_to n) (n ∷ []), or-false (p n))

pub has_down_from_to : (n y : ℕ) → T (has (down_from n) y) → y < n
unfolding some down_from
has_down_from_to zero y h = absurd h
has_down_from_to (suc n) y h = or_e (eqb y n) (has (down_from n) y) h (λ e. omega (arith, eqb→eq y n e)) (λ k. omega (arith, has_down_from_to n y k))

pub has_down_from_from : (n y : ℕ) → y < n → T (has (down_from n) y)
unfolding some down_from
has_down_from_from zero y h = absurd (omega arith)
has_down_from_from (suc n) y h = elim (eq-or-lt_of_le {n = y} {m = n} (omega arith)) [
  | inl e ↦ or_i_l (eqb y n) (has (down_from n) y) (eq→eqb y n e)
  | inr l ↦ or_i_r (eqb y n) (has (down_from n) y) (has_down_from_from n y l)
]

has_up_to : (n y : ℕ) → has (up_to n) y ≡ has (down_from n) y
unfolding some up_to down_from
has_up_to zero y = refl
has_up_to (suc n) y = rw (some_append (eqb y) (up_to n) (n ∷ []), or-false, or_comm, has_up_to n y)

-- the rows in either order
pub has_order_to : (r : Bool) (n y : ℕ) → T (has (ordered r n) y) → y < n
unfolding ordered
has_order_to true n y h = has_down_from_to n y h
has_order_to false n y h = has_down_from_to n y (rw has_up_to at h)

pub has_order_from : (r : Bool) (n y : ℕ) → y < n → T (has (ordered r n) y)
unfolding ordered
has_order_from true n y h = has_down_from_from n y h
has_order_from false n y h = rw has_up_to (has_down_from_from n y h)

pub has_up_to_to : (n y : ℕ) → T (has (up_to n) y) → y < n
unfolding ordered
has_up_to_to n y h = has_order_to false n y h

pub has_up_to_from : (n y : ℕ) → y < n → T (has (up_to n) y)
unfolding ordered
has_up_to_from n y h = has_order_from false n y h

-- a test that holds at no number below n
pub none_below : (p : ℕ → Bool) (n : ℕ) → ((k : ℕ) → k < n → p k ≡ false) → some p (up_to n) ≡ false
none_below p n h = is_false (some p (up_to n)) (λ s.
    let r : (z : ℕ) × T (p z) × T (has (up_to n) z) = some_to p (up_to n) s in
    untrue (h r.0 (has_up_to_to n r.0 r.2)) r.1)

pub below_none : (p : ℕ → Bool) (n : ℕ) → some p (up_to n) ≡ false → (k : ℕ) → k < n → p k ≡ false
below_none p n h k l = is_false (p k) (λ t. untrue h (some_from p (up_to n) k t (has_up_to_from n k l)))

pub length_up_to : (n : ℕ) → length (up_to n) ≡ n
unfolding up_to
length_up_to zero = refl
length_up_to (suc n) = rw (length-append (up_to n) (n ∷ []), length_up_to n) (add-one n)

pub length_down_from : (n : ℕ) → length (down_from n) ≡ n
unfolding down_from
length_down_from zero = refl
length_down_from (suc n) = ap suc (length_down_from n)

pub length_ordered : (r : Bool) (n : ℕ) → length (ordered r n) ≡ n
unfolding ordered
length_ordered true n = length_down_from n
length_ordered false n = length_up_to n

pub up_to_at : (n i : ℕ) → i < n → i ≡ get_or (up_to n) i 0
unfolding up_to
up_to_at zero i h = absurd (omega arith)
up_to_at (suc n) i h =
    ⊎_elim
    (λ l. up_to_at n i l ∙ sym (get_or-append (up_to n) (n ∷ []) 0 i (rw (length_up_to n) l)))
    (λ l. let e : i ≡ n = omega arith in rw e (sym (get_or_at (up_to n) n [] 0 n (length_up_to n))))
    (lt_or_ge i n)

pub down_from_at : (n i : ℕ) → i < n → n - 1 - i ≡ get_or (down_from n) i 0
unfolding down_from
down_from_at zero i h = absurd (omega arith)
down_from_at (suc n) zero h = omega arith
down_from_at (suc n) (suc i) h = let e : suc n - 1 - suc i ≡ n - 1 - i = omega arith in e ∙ down_from_at n i (omega arith)

-- either order taken twice gives each row back
pub order_back : (r : Bool) (n y : ℕ) → y < n → get_or (ordered r n) (get_or (ordered r n) y 0) 0 ≡ y
unfolding ordered
order_back true n y h = rw (← down_from_at n y h, ← down_from_at n (n - 1 - y) (omega arith)) (omega arith)
order_back false n y h = rw (← up_to_at n y h, ← up_to_at n y h)

-- ---- what is kept

cond_append : (b : Bool) (x : ℕ) (l m n : List ℕ) → l ≡ m ++ n → cond b (x ∷ l) l ≡ cond b (x ∷ m) m ++ n
cond_append true x l m n e = ap (λ (l : List ℕ). x ∷ l) e
cond_append false x l m n e = e

pub keep_append : (p : ℕ → Bool) (xs ys : List ℕ) → keep p (xs ++ ys) ≡ keep p xs ++ keep p ys
unfolding keep
keep_append p [] ys = refl
keep_append p (x ∷ xs) ys = cond_append (p x) x _ _ _ (keep_append p xs ys)

-- one member more is kept where it passes
pub keep_more : (p : ℕ → Bool) (l : List ℕ) (x : ℕ) → p x ≡ true → keep p (l ++ (x ∷ [])) ≡ keep p l ++ (x ∷ [])
unfolding keep
keep_more p l x e = keep_append p l (x ∷ []) ∙ rw e

pub keep_skip : (p : ℕ → Bool) (l : List ℕ) (x : ℕ) → p x ≡ false → keep p (l ++ (x ∷ [])) ≡ keep p l
unfolding keep
keep_skip p l x e = keep_append p l (x ∷ []) ∙ rw e (append-nil (keep p l))

-- tests that agree on the entries keep the same ones
pub keep_entries : (p q : ℕ → Bool) (l : List ℕ) → ((i : ℕ) → i < length l → p (get_or l i 0) ≡ q (get_or l i 0)) → keep p l ≡ keep q l
unfolding keep
keep_entries p q [] h = refl
keep_entries p q (x ∷ xs) h = rw (h 0 (omega arith), keep_entries p q xs (λ i k. h (suc i) (omega arith)))

pub keep_up_to : (p q : ℕ → Bool) (n : ℕ) → ((y : ℕ) → y < n → p y ≡ q y) → keep p (up_to n) ≡ keep q (up_to n)
keep_up_to p q n h = keep_entries p q (up_to n) (λ i k. let l : i < n = rw length_up_to at k in rw (← up_to_at n i l) (h i l))

-- a test that fails at each entry keeps none, one that holds at each keeps all
pub keep_none : (p : ℕ → Bool) (l : List ℕ) → ((i : ℕ) → i < length l → p (get_or l i 0) ≡ false) → keep p l ≡ []
unfolding keep
keep_none p [] h = refl
keep_none p (x ∷ xs) h = rw (h 0 (omega arith), keep_none p xs (λ i k. h (suc i) (omega arith)))

pub keep_each : (p : ℕ → Bool) (l : List ℕ) → ((i : ℕ) → i < length l → p (get_or l i 0) ≡ true) → keep p l ≡ l
unfolding keep
keep_each p [] h = refl
keep_each p (x ∷ xs) h = rw (h 0 (omega arith), keep_each p xs (λ i k. h (suc i) (omega arith)))

pub keep_all : (l : List ℕ) → keep (λ y. true) l ≡ l
keep_all l = keep_each (λ y. true) l (λ i h. refl)

-- a test that fails at each entry before index f and from index t on keeps what it keeps of those between
pub keep_slice : (p : ℕ → Bool) (l : List ℕ) (f t : ℕ) → ((i : ℕ) → i < length l → i < f → p (get_or l i 0) ≡ false) → ((i : ℕ) → i < length l → t ≤ i → p (get_or l i 0) ≡ false) → keep p l ≡ keep p (slice f t l)
unfolding keep
keep_slice p l f t before behind =
    let front : keep p (take f (take t l)) ≡ [] =
    keep_none p (take f (take t l)) (λ i h. let k = rw (length-take f, length-take t) at h in rw (get_or-take f (take t l) i 0 (omega arith), get_or-take t l i 0 (omega arith)) (before i (omega arith) (omega arith))) in
    let rest : keep p (drop t l) ≡ [] = keep_none p (drop t l) (λ i h. let k = rw (length-drop t) at h in rw (get_or-drop t l i 0) (behind (t + i) (omega arith) (omega arith))) in
    ap (keep p) (sym (take-append-drop t l))
    ∙ keep_append p (take t l) (drop t l)
    ∙ rw (rest, append-nil (keep p (take t l))) (ap (keep p) (sym (take-append-drop f (take t l))) ∙ keep_append p (take f (take t l)) (slice f t l) ∙ rw front)

pub keep_keep : (p q : ℕ → Bool) (l : List ℕ) → keep q (keep p l) ≡ keep (λ y. p y && q y) l
unfolding keep
keep_keep p q [] = refl
keep_keep p q (x ∷ xs) = go (p x) (keep_keep p q xs)
  where
    go : (b : Bool) → keep q (keep p xs) ≡ keep (λ y. p y && q y) xs → keep q (cond b (x ∷ keep p xs) (keep p xs)) ≡ cond (b && q x) (x ∷ keep (λ y. p y && q y) xs) (keep (λ y. p y && q y) xs)
    go true h = rw h
    go false h = h

pub keep_shorter : (p : ℕ → Bool) (l : List ℕ) → length (keep p l) ≤ length l
unfolding keep
keep_shorter p [] = omega arith
keep_shorter p (x ∷ xs) = by (p x) (keep_shorter p xs)
  where
    by : (b : Bool) → length (keep p xs) ≤ length xs → length (cond b (x ∷ keep p xs) (keep p xs)) ≤ suc (length xs)
    by true h = omega arith
    by false h = omega arith

-- a test that does not look at the position
pub keep_at_among : (f : ℕ → ℕ → Bool) (i : ℕ) (l : List ℕ) (y : ℕ) → T (has (keep_at f i l) y) → T (has l y)
unfolding keep_at some
keep_at_among f i [] y h = h
keep_at_among f i (x ∷ xs) y h = or_e (f x i && eqb y x) (has (keep_at f (i + 1) xs) y) (subst T (has_cond (f x i) x (keep_at f (i + 1) xs) y) h)
    (λ k. or_i_l (eqb y x) (some (eqb y) xs) (and_r (f x i) (eqb y x) k))
    (λ k. or_i_r (eqb y x) (some (eqb y) xs) (keep_at_among f (i + 1) xs y k))

pub keep_at_free : (f : ℕ → ℕ → Bool) (g : ℕ → Bool) → ((y i : ℕ) → f y i ≡ g y) → (i : ℕ) (l : List ℕ) → keep_at f i l ≡ keep g l
unfolding keep keep_at
keep_at_free f g e i [] = refl
keep_at_free f g e i (x ∷ xs) = rw (e x i, keep_at_free f g e (i + 1) xs)

-- ---- lists in order

-- x stands before y in document order, or in reverse
unfoldable pub Before : Bool → ℕ → ℕ → Type 0
Before false x y = x < y
Before true x y = y < x

-- each entry stands before those behind it, so none stands there twice
unfoldable pub Monotone : Bool → List ℕ → Type 0
Monotone reverse l = (i j : ℕ) → i < j → j < length l → Before reverse (get_or l i 0) (get_or l j 0)

-- each entry is above those before it
abbrev pub Rising : List ℕ → Type 0
Rising = Monotone false

monotone_behind : (r : Bool) (x : ℕ) (xs : List ℕ) → Monotone r (x ∷ xs) → Monotone r xs
unfolding Monotone
monotone_behind r x xs m i j h k = m (suc i) (suc j) (omega arith) (omega arith)

pub order_monotone : (r : Bool) (n : ℕ) → Monotone r (ordered r n)
unfolding Monotone Before ordered
order_monotone true n i j h k = let l : j < n = rw length_down_from at k in omega (arith, down_from_at n i (omega arith), down_from_at n j l)
order_monotone false n i j h k = let l : j < n = rw length_up_to at k in omega (arith, up_to_at n i (omega arith), up_to_at n j l)

-- each entry of m is an entry of l
abbrev Within : List ℕ → List ℕ → Type 0
Within m l = (i : ℕ) → i < length m → (k : ℕ) × (k < length l) × (get_or l k 0 ≡ get_or m i 0)

kept_within : (p : ℕ → Bool) (l : List ℕ) → Within (keep p l) l
unfolding keep
kept_within p [] i h = absurd (omega arith)
kept_within p (x ∷ xs) i h = by (p x) (kept_within p xs) i h
  where
    behind : Within (keep p xs) xs → Within (keep p xs) (x ∷ xs)
    behind w i h = let r = w i h in (suc r.0, omega arith, r.2)

    by : (b : Bool) → Within (keep p xs) xs → Within (cond b (x ∷ keep p xs) (keep p xs)) (x ∷ xs)
    by false w i h = behind w i h
    by true w zero h = (0, omega arith, refl)
    by true w (suc i) h = behind w i (omega arith)

pub keep_monotone : (r : Bool) (p : ℕ → Bool) (l : List ℕ) → Monotone r l → Monotone r (keep p l)
unfolding keep Monotone
keep_monotone r p [] m = m
keep_monotone r p (x ∷ xs) m = by (p x) (keep_monotone r p xs (monotone_behind r x xs m))
  where
    by : (b : Bool) → Monotone r (keep p xs) → Monotone r (cond b (x ∷ keep p xs) (keep p xs))
    by false k i j h l = k i j h l
    by true k i zero h l = absurd (omega arith)
    by true k zero (suc j) h l = let q = kept_within p xs j (omega arith) in subst (Before r x) q.2 (m 0 (suc q.0) (omega arith) (omega arith))
    by true k (suc i) (suc j) h l = k i j (omega arith) (omega arith)

-- ---- places in a list

-- a place counted from 1 or above is positive exactly if y is there
pub place_some : (i : ℕ) (l : List ℕ) (y : ℕ) → 0 < i → ltb 0 (place_from i l y) ≡ has l y
unfolding place_from some
place_some i [] y h = refl
place_some i (x ∷ xs) y h = by (eqb y x) (place_some (i + 1) xs y (omega arith))
  where
    by : (b : Bool) → ltb 0 (place_from (i + 1) xs y) ≡ has xs y → ltb 0 (cond b i (place_from (i + 1) xs y)) ≡ (b || has xs y)
    by true k = lt-ltb 0 i h
    by false k = k

-- a place counted from i is at least i
place_least : (i : ℕ) (l : List ℕ) (y : ℕ) → 0 < place_from i l y → i ≤ place_from i l y
unfolding place_from
place_least i [] y h = absurd (omega arith)
place_least i (x ∷ xs) y h = by (eqb y x) (place_least (i + 1) xs y) h
  where
    by : (b : Bool) → (0 < place_from (i + 1) xs y → i + 1 ≤ place_from (i + 1) xs y) → 0 < cond b i (place_from (i + 1) xs y) → i ≤ cond b i (place_from (i + 1) xs y)
    by true r h = omega arith
    by false r h = omega (arith, r h)

-- y passes, and no larger number below n does
abbrev pub Largest : (ℕ → Bool) → ℕ → ℕ → Type 0
Largest p n y = T (p y) × ((k : ℕ) → y < k → k < n → p k ≡ false)

-- what has place 1 in what is kept of the numbers below n, from the last one down, is the largest that passes
pub place_largest : (p : ℕ → Bool) (n y : ℕ) → place_from 1 (keep p (down_from n)) y ≡ 1 → Largest p n y
unfolding place_from keep down_from
place_largest p zero y e = absurd (omega arith)
place_largest p (suc n) y e = by (p n) refl (place_largest p n y) e
  where
    by : (b : Bool) → p n ≡ b → (place_from 1 (keep p (down_from n)) y ≡ 1 → Largest p n y) → place_from 1 (cond b (n ∷ keep p (down_from n)) (keep p (down_from n))) y ≡ 1 → Largest p (suc n) y
    by true h below e = elim (eq_or_ne y n) [
      | inl s ↦ (rw s (truly h), λ k a b. absurd (omega arith))
      | inr d ↦ let f = rw (ne_eqb y n d) at e in absurd (omega (arith, f, place_least 2 (keep p (down_from n)) y (omega arith)))
    ]
    by false h below e =
        let r = below e in (
          r.0,
          λ k a b. elim (eq_or_ne k n) [
            | inl s ↦ rw s h
            | inr d ↦ r.1 k a (omega arith)
          ],
        )

-- what stands behind another is not that one
behind_other : (r : Bool) (x y : ℕ) → Before r x y → eqb y x ≡ false
unfolding Before
behind_other false x y h = ne_eqb y x (λ e. omega arith)
behind_other true x y h = ne_eqb y x (λ e. omega arith)

module _ (r : Bool) where
  not_first : (x : ℕ) (xs : List ℕ) → Monotone r (x ∷ xs) → (i : ℕ) → i < length xs → eqb (get_or xs i 0) x ≡ false
  unfolding Monotone
  not_first x xs m i h = behind_other r x (get_or xs i 0) (m 0 (suc i) (omega arith) (omega arith))

  -- in what is kept of a list in order, an entry's place is one more than those kept before it
  pub place_kept : (p : ℕ → Bool) (l : List ℕ) → Monotone r l → (k i : ℕ) → i < length l → p (get_or l i 0) ≡ true → place_from k (keep p l) (get_or l i 0) ≡ k + length (keep p (take i l))
  unfolding place_from keep
  place_kept p [] m k i h e = absurd (omega arith)
  place_kept p (x ∷ xs) m k zero h e = rw (e, eq-eqb x x refl) (omega arith)
  place_kept p (x ∷ xs) m k (suc i) h e = by (p x) (λ k. place_kept p xs (monotone_behind r x xs m) k i (omega arith) e)
    where
      y : ℕ
      y = get_or xs i 0

      by : (b : Bool) → ((k : ℕ) → place_from k (keep p xs) y ≡ k + length (keep p (take i xs)))
          → place_from k (cond b (x ∷ keep p xs) (keep p xs)) y ≡ k + length (cond b (x ∷ keep p (take i xs)) (keep p (take i xs)))
      by true q = rw (not_first x xs m i (omega arith)) (q (k + 1) ∙ omega arith)
      by false q = q k

  -- so in a list in order the entry at i has the place i
  pub place_entry : (l : List ℕ) → Monotone r l → (k i : ℕ) → i < length l → place_from k l (get_or l i 0) ≡ k + i
  place_entry l m k i h = rw (keep_all l) at (place_kept (λ y. true) l m k i h refl) ∙ rw (keep_all (take i l), length-take) (omega arith)

  -- and a position is the place
  pub keep_at_places : (f : ℕ → ℕ → Bool) (l : List ℕ) → Monotone r l → (k : ℕ) → keep_at f k l ≡ keep (λ y. f y (place_from k l y)) l
  unfolding keep_at keep place_from
  keep_at_places f [] m k = refl
  keep_at_places f (x ∷ xs) m k =
      let e : keep (λ y. f y (cond (eqb y x) k (place_from (k + 1) xs y))) xs ≡ keep (λ y. f y (place_from (k + 1) xs y)) xs =
      keep_entries _ _ xs (λ i h. rw (not_first x xs m i h)) in
      rw (eq-eqb x x refl, e, keep_at_places f xs (monotone_behind r x xs m) (k + 1))

-- ---- the lowest number

pub lowest_le : (f : ℕ → Bool) (n : ℕ) → lowest f n ≤ n
unfolding lowest
lowest_le f zero = omega arith
lowest_le f (suc n) = go (ltb (lowest f n) n) (f n) (lowest_le f n)
  where
    go : (b c : Bool) → lowest f n ≤ n → cond b (lowest f n) (cond c n (suc n)) ≤ suc n
    go true c h = omega arith
    go false true h = omega arith
    go false false h = omega arith

none_lowest : (f : ℕ → Bool) (n : ℕ) → ((k : ℕ) → k < n → f k ≡ false) → lowest f n ≡ n
unfolding lowest
none_lowest f zero h = refl
none_lowest f (suc n) h = rw (none_lowest f n (λ k l. h k (omega arith)), le-ltb n n (omega arith), h n (omega arith))

-- k is the lowest if the test fails below it and holds at it, or it is n
pub lowest_is : (f : ℕ → Bool) (n k : ℕ) → k ≤ n → ((j : ℕ) → j < k → f j ≡ false) → (k < n → f k ≡ true) → lowest f n ≡ k
unfolding lowest
lowest_is f zero k l h g = let e : k ≡ 0 = omega arith in rw e
lowest_is f (suc n) k l h g = elim (eq-or-lt_of_le l) [
  | inl e ↦ rw e (none_lowest f (suc n) (λ j m. h j (omega arith)))
  | inr m ↦ elim (eq-or-lt_of_le {n = k} {m = n} (omega arith)) [
    | inl e ↦
        let b : lowest f n ≡ n = none_lowest f n (λ j m. h j (omega arith)) in
        let t : f n ≡ true = ap f (sym e) ∙ g (omega arith) in
        rw (b, le-ltb n n (omega arith), t, e)
    | inr m ↦
        let r : lowest f n ≡ k = lowest_is f n k (omega arith) h (λ a. g (omega arith)) in
        rw (r, lt-ltb k n m)
  ]
]

-- there is a number at which the test holds exactly if the lowest is below n
pub lowest_some : (f : ℕ → Bool) (n : ℕ) → some f (up_to n) ≡ ltb (lowest f n) n
unfolding lowest up_to some
lowest_some f zero = refl
lowest_some f (suc n) = some_last f n ∙ go (ltb (lowest f n) n) (f n) refl (lowest_some f n)
  where
    go : (b c : Bool) → ltb (lowest f n) n ≡ b → some f (up_to n) ≡ ltb (lowest f n) n → (some f (up_to n) || c) ≡ ltb (cond b (lowest f n) (cond c n (suc n))) (suc n)
    go true c e h = rw (h, e) (sym (lt-ltb (lowest f n) (suc n) (omega (arith, ltb-true (lowest f n) n e))))
    go false true e h = rw (h, e) (sym (lt-ltb n (suc n) (omega arith)))
    go false false e h = rw (h, e) (sym (le-ltb (suc n) (suc n) (omega arith)))

-- below the lowest the test fails, and at it, where it is below n, it holds
pub lowest_below : (f : ℕ → Bool) (n j : ℕ) → j < lowest f n → f j ≡ false
unfolding lowest
lowest_below f zero j h = absurd (omega arith)
lowest_below f (suc n) j h = go (ltb (lowest f n) n) (f n) refl refl (lowest_below f n j) h
  where
    go : (b c : Bool) → ltb (lowest f n) n ≡ b → f n ≡ c → (j < lowest f n → f j ≡ false) → j < cond b (lowest f n) (cond c n (suc n)) → f j ≡ false
    go true c e d r k = r k
    go false true e d r k = r (omega (arith, ltb-false (lowest f n) n e))
    go false false e d r k = ⊎_elim (λ l. r (omega (arith, ltb-false (lowest f n) n e))) (λ l. let s : j ≡ n = omega arith in ap f s ∙ d) (lt_or_ge j n)

pub lowest_at : (f : ℕ → Bool) (n : ℕ) → lowest f n < n → f (lowest f n) ≡ true
unfolding lowest
lowest_at f zero h = absurd (omega arith)
lowest_at f (suc n) h = go (ltb (lowest f n) n) (f n) refl refl (lowest_at f n) h
  where
    go : (b c : Bool) → ltb (lowest f n) n ≡ b → f n ≡ c → (lowest f n < n → f (lowest f n) ≡ true) → cond b (lowest f n) (cond c n (suc n)) < suc n → f (cond b (lowest f n) (cond c n (suc n))) ≡ true
    go true c e d r k = r (ltb-true (lowest f n) n e)
    go false true e d r k = d
    go false false e d r k = absurd (omega arith)

-- i is the lowest number below n at which the test holds
pub record IsLowest (f : ℕ → Bool) (n i : ℕ) : Type 0 where
  pub below : i < n
  pub holds : f i ≡ true
  pub first : (j : ℕ) → j < i → f j ≡ false

-- it is found where there is one
pub lowest_found : (f : ℕ → Bool) (n : ℕ) → some f (up_to n) ≡ true → IsLowest f n (lowest f n)
lowest_found f n e =
    let l : lowest f n < n = ltb-true (lowest f n) n (sym (lowest_some f n) ∙ e) in
    record { below = l; holds = lowest_at f n l; first = lowest_below f n }

-- and it is the one that is found
pub found_lowest : {f : ℕ → Bool} {n i : ℕ} → IsLowest f n i → lowest f n ≡ i
found_lowest {f} {n} {i} l = lowest_is f n i (omega (arith, l.below)) l.first (λ _. l.holds)

pub found_some : {f : ℕ → Bool} {n i : ℕ} → IsLowest f n i → some f (up_to n) ≡ true
found_some {f} {n} {i} l = lowest_some f n ∙ rw (found_lowest l) (lt-ltb i n l.below)

-- Axes whose nodes are a range of rows without the attributes in it (document 02, W-205 and W-209): the rows before it and behind it are not
-- on the axis, so the list kept over all rows is the list kept over the range.
-- Assumes nothing.
use Prim.Native.Nat.{ℕ, ◌+◌, ◌-◌, ◌<◌, ◌≤◌, min}
use mathlib.Core.Path.{◌≡◌, sym, ◌∙◌}
use mathlib.Core.Logic.{⊎_elim}
use mathlib.Core.Bool.{Bool, true, false, ◌||◌, not, and-false}
use mathlib.Core.List.{List}
use lib.ListN.{length, get_or, take, set}
use lib.Dec.{ltb, eqb}
use lib.Seq.{slice, length-slice, get_or-drop, get_or-take}
use native.Mathlib.Omega.{arith}
use borrow.Author.Tests.{eq-eqb, ne_eqb, lt-ltb, le-ltb, le-leb, lt-leb}
use Rattle.meaning.specs.Lists.{up_to, keep}
use Rattle.meaning.specs.Table.{rows, end, is_attribute}
use Rattle.meaning.specs.Axis.{inside, on, ordered, axis_nodes}
use Rattle.meaning.specs.declared.Axis.TheVariants.{Descendant, DescendantOrSelf}
use Rattle.meaning.specs.Axis as A
use Rattle.meaning.proofs.Bools.{eq_or_ne}
use Rattle.meaning.proofs.Lists.{keep_slice, keep_entries, length_up_to, up_to_at}
use Rattle.meaning.proofs.Filters.{Chosen, chosen_start, chosen_skip, chosen_more, chosen_done}

-- ---- a range of the numbers below n

-- the numbers from f to before t
abbrev pub range : ℕ → ℕ → ℕ → List ℕ
range n f t = slice f t (up_to n)

module _ (n f t : ℕ) (h : t ≤ n) where
  pub range_length : length (range n f t) ≡ t - f
  range_length = length-slice f t (up_to n) (rw length_up_to h)

  -- y stands at y - f
  pub range_at : (y : ℕ) → f ≤ y → y < t → y ≡ get_or (range n f t) (y - f) 0
  range_at y k l =
      let e : f + (y - f) ≡ y = omega arith in
      rw (get_or-drop f (take t (up_to n)) (y - f) 0, e, get_or-take t (up_to n) y 0 l) (up_to_at n y (omega arith))

  -- of the numbers below n a test keeps what another keeps of the range if it fails before it and behind it and agrees in it
  pub keep_range : (p q : ℕ → Bool) → ((y : ℕ) → y < f → p y ≡ false) → ((y : ℕ) → t ≤ y → y < n → p y ≡ false) → ((y : ℕ) → f ≤ y → y < t → p y ≡ q y) → keep p (up_to n) ≡ keep q (range n f t)
  keep_range p q before behind between =
      keep_slice p (up_to n) f t
      (λ i k m. let l : i < n = rw length_up_to at k in rw (← up_to_at n i l) (before i m))
      (λ i k m. let l : i < n = rw length_up_to at k in rw (← up_to_at n i l) (behind i m l))
      ∙ keep_entries p q (range n f t) (λ i k.
      let l = rw range_length at k in
      let e : f + i - f ≡ i = omega arith in
      rw (rw e at (sym (range_at (f + i) (omega arith) (omega arith)))) (between (f + i) (omega arith) (omega arith)))

-- ---- a list that a loop fills from a range

-- the first m are what passes of the range before y
unfoldable pub Ranged : (ℕ → Bool) → ℕ → ℕ → ℕ → List ℕ → ℕ → ℕ → Type 0
Ranged p n f t list m y = Chosen p (range n f t) list m (y - f)

module _ (p : ℕ → Bool) (n f t : ℕ) where
  pub ranged_start : (list : List ℕ) → Ranged p n f t list 0 f
  unfolding Ranged
  ranged_start list = let e : f - f ≡ 0 = omega arith in rw e (chosen_start p (range n f t) list)

  module _ (list : List ℕ) (m y : ℕ) (so_far : Ranged p n f t list m y) (h : t ≤ n) (k : f ≤ y) (l : y < t) where
    next : y + 1 - f ≡ y - f + 1
    next = omega arith

    within : y - f < length (range n f t)
    within = rw (range_length n f t h) (omega arith)

    pub ranged_skip : p y ≡ false → Ranged p n f t list m (y + 1)
    unfolding Ranged
    ranged_skip e = rw next (chosen_skip p (range n f t) list m (y - f) so_far within (rw (← range_at n f t h y k l) e))

    pub ranged_more : m < length list → p y ≡ true → Ranged p n f t (set list m y) (m + 1) (y + 1)
    unfolding Ranged
    ranged_more b e = rw next (chosen_more p (range n f t) list m (y - f) y so_far within b (range_at n f t h y k l) (rw (← range_at n f t h y k l) e))

  pub ranged_done : (list : List ℕ) (m y : ℕ) → Ranged p n f t list m y → t ≤ n → t ≤ y → take m list ≡ keep p (range n f t)
  unfolding Ranged
  ranged_done list m y so_far h k = chosen_done p (range n f t) list m (y - f) so_far (rw (range_length n f t h) (omega arith))

-- ---- axes

-- is y the node x itself, or no attribute?
abbrev pub own_or_plain : List ℕ → ℕ → ℕ → Bool
own_or_plain t x y = eqb x y || not (is_attribute t y)

-- a subtree's rows end where its size says, or with the table; of them x itself and those that are no attributes are on its axes
module _ (t : List ℕ) (x to : ℕ) (is-to : to ≡ min (rows t) (end t x + 1)) where
  -- the descendants of x are the rows after it
  pub descendants_range : axis_nodes t Descendant x ≡ keep (own_or_plain t x) (range (rows t) (x + 1) to)
  unfolding axis_nodes on inside A.is_reverse ordered
  descendants_range =
      keep_range (rows t) (x + 1) to (omega arith) (on t Descendant x) (own_or_plain t x)
      (λ y h. rw (le-ltb x y (omega arith)))
      (λ y h k. rw (lt-leb y (end t x) (omega arith), and-false (ltb x y)))
      (λ y h k. rw (ne_eqb x y (λ e. omega arith), lt-ltb x y (omega arith), le-leb y (end t x) (omega arith)))

  -- with x itself, from it on
  pub subtree_range : axis_nodes t DescendantOrSelf x ≡ keep (own_or_plain t x) (range (rows t) x to)
  unfolding axis_nodes on inside A.is_reverse ordered
  subtree_range =
      keep_range (rows t) x to (omega arith) (on t DescendantOrSelf x) (own_or_plain t x)
      (λ y h. rw (ne_eqb x y (λ e. omega arith), le-ltb x y (omega arith)))
      (λ y h k. rw (ne_eqb x y (λ e. omega arith), lt-leb y (end t x) (omega arith), and-false (ltb x y)))
      (λ y h k. ⊎_elim
      (λ e. rw (eq-eqb x y e))
      (λ e. rw (ne_eqb x y e, lt-ltb x y (omega arith), le-leb y (end t x) (omega arith)))
      (eq_or_ne x y))

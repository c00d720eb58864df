-- The shape of an accepted table: what the parent rule says of a row, and that subtrees nest or are disjoint.
-- Assumes nothing.
use Prim.Native.Nat.{ℕ, zero, suc, ◌*◌, ◌%◌, ◌<◌, ◌≤◌}
use mathlib.Core.Path.{◌≡◌, sym, subst}
use mathlib.Core.Logic.{◌⊎◌, inl, inr}
use mathlib.Core.Bool.{true, false, ◌&&◌, not, cond}
use mathlib.Core.List.{List}
use lib.ListN.{length}
use lib.Dec.{T, leb, ltb, eqb, ltb→lt, leb→le, eqb→eq, lt→ltb, le→leb}
use native.Mathlib.Omega.{arith}
use native.Mathlib.Nat.{eq-or-lt_of_le}
use borrow.Author.Tests.{ne_eqb, le-leb}
use Rattle.meaning.specs.Lists.{up_to, some}
use Rattle.meaning.specs.Table.{most_rows, kind, parent_of, rows, end, is_attribute, length_within, length_allowed, good_root, nearest, good_parent, good_row, broken, accepted}
use Rattle.meaning.proofs.Bools.{and_l, and_r, and_i, truly, is_false, not_false, not_e, lt_or_ge}
use Rattle.meaning.proofs.Lists.{below_none, some_from, has_up_to_from}

-- what acceptance says of a row that is not the root
pub record ChildRow (t : List ℕ) (i : ℕ) : Type 0 where
  pub below : parent_of t i < i
  pub reached : i ≤ end t (parent_of t i)
  pub within : end t i ≤ end t (parent_of t i)
  pub largest : (j : ℕ) → j < i → i ≤ end t j → j ≤ parent_of t i

-- nobody larger than the nearest reaches
pub nearest_largest : (t : List ℕ) (i p : ℕ) → T (not (some (λ k. ltb p k && leb i (end t k)) (up_to i))) → (j : ℕ) → j < i → i ≤ end t j → j ≤ p
nearest_largest t i p h j l k = elim (lt_or_ge p j) [
  | inr m ↦ m
  | inl m ↦ absurd (not_e (some (λ k. ltb p k && leb i (end t k)) (up_to i)) h
      (some_from (λ k. ltb p k && leb i (end t k)) (up_to i) j (and_i (ltb p j) (leb i (end t j)) (lt→ltb p j m) (le→leb i (end t j) k)) (has_up_to_from i j l)))
]

-- what a row that is not broken says
pub good_parent_lem : (t : List ℕ) (i : ℕ) → T (good_row t i) → T (good_parent t i)
unfolding good_row
good_parent_lem t i g = search (and_l, and_r) depth 9

pub parent_child : (t : List ℕ) (i : ℕ) → T (good_parent t i) → ChildRow t i
unfolding good_parent nearest
parent_child t i p =
    let b : T (ltb (parent_of t i) i) = search (and_l, and_r) in
    let r : T (leb i (end t (parent_of t i))) = search (and_l, and_r) in
    let n : T (not (some (λ k. ltb (parent_of t i) k && leb i (end t k)) (up_to i))) = search (and_l, and_r) in
    let w : T (leb (end t i) (end t (parent_of t i))) = search (and_l, and_r) in
    record {
      below = ltb→lt (parent_of t i) i b;
      reached = leb→le i (end t (parent_of t i)) r;
      within = leb→le (end t i) (end t (parent_of t i)) w;
      largest = nearest_largest t i (parent_of t i) n;
    }

pub good_child_lem : (t : List ℕ) (i : ℕ) → T (good_row t i) → ChildRow t i
good_child_lem t i g = parent_child t i (good_parent_lem t i g)

-- the root has kind 0
pub root_kind : (t : List ℕ) → T (good_root t) → kind t 0 ≡ 0
unfolding good_root
root_kind t g =
    let f : T (eqb (kind t 0) 0) = search (and_l, and_r) in
    eqb→eq (kind t 0) 0 f

-- a row that is no attribute
abbrev pub Plain : List ℕ → ℕ → Type 0
Plain t i = (i < rows t) × (is_attribute t i ≡ false)

-- no row below n is broken
abbrev pub Sound : List ℕ → ℕ → Type 0
Sound t n = (j : ℕ) → j < n → broken t j ≡ false

module _ (t : List ℕ) (n : ℕ) (sound : Sound t n) where
  -- so the rules hold of the root and of each other row below n
  pub root_holds : 0 < n → T (good_root t)
  unfolding broken
  root_holds l = not_false (good_root t) (sound 0 l)

  pub row_holds : (i : ℕ) → 0 < i → i < n → T (good_row t i)
  unfolding broken
  row_holds i p l =
      let w : not (cond (eqb i 0) (good_root t) (good_row t i)) ≡ false = sound i l in
      not_false (good_row t i) (rw (ne_eqb i 0 (λ e. omega arith)) at w)

-- how many numbers and rows a length within a limit has, and that so many are within it
pub length_within_lem : (most : ℕ) (t : List ℕ) → T (length_within most t) → (length t ≡ 4 * rows t) × (0 < rows t) × (rows t ≤ most)
unfolding length_within
length_within_lem most t l =
    let a : T (eqb (length t % 4) 0) = search (and_l, and_r) in
    let b : T (leb 1 (rows t)) = search (and_l, and_r) in
    let c : T (leb (rows t) most) = search (and_l, and_r) in
    let e : length t % 4 ≡ 0 = eqb→eq (length t % 4) 0 a in
    (omega arith, leb→le 1 (rows t) b, leb→le (rows t) most c)

pub within_length : (most : ℕ) (t : List ℕ) → length t ≡ 4 * rows t → 0 < rows t → rows t ≤ most → T (length_within most t)
unfolding length_within
within_length most t e a b = let m : length t % 4 ≡ 0 = omega arith in rw (m, le-leb 1 (rows t) a, le-leb (rows t) most b) tt

module _ (t : List ℕ) (acc : accepted t ≡ true) where
  pub allowed : T (length_allowed t)
  unfolding accepted
  allowed = and_l (length_allowed t) (not (some (broken t) (up_to (rows t)))) (truly acc)

  pub whole : Sound t (rows t)
  unfolding accepted
  whole = below_none (broken t) (rows t) (is_false (some (broken t) (up_to (rows t)))
      (not_e (some (broken t) (up_to (rows t))) (and_r (length_allowed t) (not (some (broken t) (up_to (rows t)))) (truly acc))))

  pub some_row : 0 < rows t
  some_row = (length_within_lem most_rows t allowed).1

  pub few_rows : rows t ≤ most_rows
  few_rows = (length_within_lem most_rows t allowed).2

  -- row 0's parent field is filler, and it is 0
  pub root_parent : parent_of t 0 ≡ 0
  unfolding good_root
  root_parent =
      let g : T (good_root t) = root_holds t (rows t) whole some_row in
      let f : T (eqb (parent_of t 0) 0) = search (and_l, and_r) in
      eqb→eq (parent_of t 0) 0 f

  pub child : (i : ℕ) → 0 < i → i < rows t → ChildRow t i
  child i p h = good_child_lem t i (row_holds t (rows t) whole i p h)

  -- no row's parent stands after it
  pub parent_first : (i : ℕ) → i < rows t → parent_of t i ≤ i
  parent_first zero h = omega (arith, root_parent)
  parent_first (suc i) h = omega (arith, (child (suc i) (omega arith) h).below)

  nest_below : (n i j : ℕ) → j < n → j < rows t → i < j → j ≤ end t i → end t j ≤ end t i
  nest_below zero i j b h l k = absurd (omega arith)
  nest_below (suc n) i j b h l k =
      let c : ChildRow t j = child j (omega arith) h in
      elim (eq-or-lt_of_le {n = i} {m = parent_of t j} (c.largest i l k)) [
        | inl s ↦ omega (arith, subst (λ (m : ℕ). end t j ≤ end t m) (sym s) c.within)
        | inr m ↦ omega (arith, nest_below n i (parent_of t j) (omega arith) (omega arith) m (omega arith))
      ]

  -- a subtree that begins inside another ends inside it
  pub nest : (i j : ℕ) → j < rows t → i < j → j ≤ end t i → end t j ≤ end t i
  nest i j h l k = nest_below (suc j) i j (omega arith) h l k

  -- subtrees nest or are disjoint
  pub subtrees_nest : (i j : ℕ) → j < rows t → i < j → (end t j ≤ end t i) ⊎ (end t i < j)
  subtrees_nest i j h l = elim (lt_or_ge (end t i) j) [
    | inl m ↦ inr m
    | inr m ↦ inl (nest i j h l m)
  ]

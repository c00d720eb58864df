-- The arrays that the checker's passes fill: how each starts, what one row adds, and what is read off it.
-- Assumes nothing.
use Prim.Native.Nat.{ℕ, ◌+◌, ◌<◌, ◌≤◌, max}
use mathlib.Core.Path.{◌≡◌, refl, sym, ap, ◌∙◌}
use mathlib.Core.Logic.{⊎_elim}
use mathlib.Core.Bool.{Bool, true, false, ◌||◌, or_assoc, or-false, or-true, cond}
use mathlib.Core.List.{List}
use lib.ListN.{length, get_or, set, length-set, replicate}
use lib.Seq.{get_or-set_same, get_or-set_other}
use lib.Dec.{eqb}
use native.Mathlib.Omega.{arith}
use native.Mathlib.Nat.{max-le, le_trans}
use borrow.Author.Tests.{eq-eqb, ne_eqb}
use Rattle.meaning.specs.Rows.{op_at, first_link, second_link, links, linked_below, is_path}
use Rattle.meaning.specs.Tree.{tree, depth}
use Rattle.meaning.proofs.Bools.{eq_or_ne}
use Rattle.meaning.proofs.Trees.{first_le, second_le}
use Rattle.meaning.proofs.Marks.{no_marks}
use Rattle.meaning.proofs.Checks.{linked_none, linked_more, depth_row, depth_zero, depth_le}
use Rattle.path_check.specs.Passes.{Marks, Depths}

-- ---- marks of links

-- a mark made is one more at which the marks hold
marked : (m : List Bool) (i l : ℕ) → i < length m → get_or (set m i true) l false ≡ (get_or m l false || eqb i l)
marked m i l h =
    ⊎_elim
    (λ e. rw (← e, get_or-set_same m i true false h, eq-eqb i i refl) (sym (or-true (get_or m i false))))
    (λ n. rw (get_or-set_other m i l true false (λ e. n (sym e)), ne_eqb i l n) (sym (or-false (get_or m l false))))
    (eq_or_ne i l)

-- a row's links marked
pub marks_more : (p : List ℕ) (r : ℕ) (m : List Bool) (a b : ℕ) → Marks p r m → a ≡ first_link p r → b ≡ second_link p r → a < length m → b < length m → Marks p (r + 1) (set (set m a true) b true)
unfolding links
marks_more p r m a b h e f k n l =
    let n' : b < length (set m a true) = rw (length-set m a true) n in
    rw (marked (set m a true) b l n', marked m a l k, h l, linked_more p r l, ← e, ← f) (or_assoc (linked_below p r l) (eqb a l) (eqb b l))

-- no marks before the first row
pub marks_start : (p : List ℕ) (n : ℕ) → Marks p 0 (replicate n false)
marks_start p n l = no_marks n l ∙ sym (linked_none p l)

-- what a mark says
pub marks_at : (p : List ℕ) (n : ℕ) (m : List Bool) → Marks p n m → (l : ℕ) → get_or m l false ≡ linked_below p n l
marks_at p n m h l = h l

-- the marks after the last row
pub marks_all : (p : List ℕ) (r n : ℕ) (m : List Bool) → Marks p r m → r ≡ n → Marks p n m
marks_all p r n m h e = rw e at h

-- ---- depths by link

-- no link has depth 0
pub depths_start : (p : List ℕ) (d : List ℕ) → get_or d 0 0 ≡ 0 → Depths p 0 d
unfolding Depths
depths_start p d h l k = let e : l ≡ 0 = omega arith in rw e (h ∙ sym (depth_zero p))

-- a row's depth written at its link
pub depths_more : (p : List ℕ) (r : ℕ) (d : List ℕ) (v : ℕ) → Depths p r d → r + 1 < length d → v ≡ depth (tree p (r + 1)) → Depths p (r + 1) (set d (r + 1) v)
unfolding Depths
depths_more p r d v h k e l n =
    ⊎_elim
    (λ s. ap (λ (l : ℕ). get_or (set d (r + 1) v) l 0) s ∙ get_or-set_same d (r + 1) v 0 k ∙ e ∙ ap (λ (l : ℕ). depth (tree p l)) (sym s))
    (λ s. get_or-set_other d (r + 1) l v 0 s ∙ h l (omega arith))
    (eq_or_ne l (r + 1))

-- what a depth says
pub depths_at : (p : List ℕ) (n : ℕ) (d : List ℕ) (l : ℕ) → Depths p n d → l ≤ n → get_or d l 0 ≡ depth (tree p l)
unfolding Depths
depths_at p n d l h k = h l k

-- the depth of a row from what stands at its links
module _ (p : List ℕ) (r : ℕ) (d : List ℕ) (a b v : ℕ) (h : Depths p r d) (is-first : (a ≡ first_link p r) × (a ≤ r)) (is-second : (b ≡ second_link p r) × (b ≤ r)) (is-larger : v ≡ max (get_or d a 0) (get_or d b 0)) where
  inner : v ≡ max (depth (tree p (first_link p r))) (depth (tree p (second_link p r)))
  inner = is-larger ∙ rw (depths_at p r d a h is-first.1, depths_at p r d b h is-second.1, is-first.0, is-second.0)

  -- the deeper link is no deeper than the row's number
  pub inner_le : v ≤ r
  inner_le = rw inner (max-le (le_trans (depth_le p (first_link p r)) (first_le p r)) (le_trans (depth_le p (second_link p r)) (second_le p r)))

  -- a path is one deeper than its links
  pub row_deep : (path : Bool) (w : ℕ) → path ≡ is_path (op_at p r) → w ≡ v + cond path 1 0 → (w ≡ depth (tree p (r + 1))) × (w ≤ r + 1)
  row_deep path w e f =
      let g : w ≡ depth (tree p (r + 1)) = f ∙ rw (inner, e) (sym (depth_row p r)) in
      (g, rw g (depth_le p (r + 1)))

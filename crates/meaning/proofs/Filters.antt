-- Lists that a loop fills or filters: each loop's invariant is a named predicate, with laws for its start, its steps and its
-- end.
-- Assumes nothing.
use Prim.Native.Nat.{ℕ, ◌+◌, ◌<◌, ◌≤◌}
use mathlib.Core.Path.{◌≡◌, refl, sym, ap, ◌∙◌}
use mathlib.Core.Bool.{Bool, true, false}
use mathlib.Core.List.{List, [], ◌∷◌, ◌++◌, append-nil, append_assoc}
use lib.ListN.{length, get_or, take, drop, set, length-append}
use lib.Seq.{slice-cons, slice_empty, take-suc, take-suc-set, take-set-lt, drop-set-lt, take_all}
use native.Mathlib.Omega.{arith}
use native.Mathlib.Numerals.{add-one}
use Rattle.meaning.specs.Lists.{keep}
use Rattle.meaning.specs.Meaning.{keep_at}
use Rattle.meaning.proofs.Lists.{keep_more, keep_skip}

-- ---- a list that is filled from another

-- the first m are what passes of the first i
unfoldable pub Chosen : (ℕ → Bool) → List ℕ → List ℕ → ℕ → ℕ → Type 0
Chosen p from list m i = take m list ≡ keep p (take i from)

module _ (p : ℕ → Bool) (from : List ℕ) where
  pub chosen_start : (list : List ℕ) → Chosen p from list 0 0
  unfolding Chosen keep
  chosen_start list = refl

  pub chosen_skip : (list : List ℕ) (m i : ℕ) → Chosen p from list m i → i < length from → p (get_or from i 0) ≡ false → Chosen p from list m (i + 1)
  unfolding Chosen keep
  chosen_skip list m i h a e = rw (add-one i, take-suc from i 0 a, keep_skip p (take i from) (get_or from i 0) e) h

  pub chosen_more : (list : List ℕ) (m i v : ℕ) → Chosen p from list m i → i < length from → m < length list → v ≡ get_or from i 0 → p (get_or from i 0) ≡ true → Chosen p from (set list m v) (m + 1) (i + 1)
  unfolding Chosen keep
  chosen_more list m i v h a b f e = rw (add-one i, add-one m, take-suc from i 0 a, keep_more p (take i from) (get_or from i 0) e, take-suc-set list m v b, h, f)

  pub chosen_done : (list : List ℕ) (m i : ℕ) → Chosen p from list m i → length from ≤ i → take m list ≡ keep p from
  unfolding Chosen
  chosen_done list m i h a = rw (take_all i from a) at h

-- m of the first i pass
unfoldable pub Tallied : (ℕ → Bool) → List ℕ → ℕ → ℕ → Type 0
Tallied p from m i = m ≡ length (keep p (take i from))

module _ (p : ℕ → Bool) (from : List ℕ) where
  pub tallied_start : Tallied p from 0 0
  unfolding Tallied keep
  tallied_start = refl

  pub tallied_skip : (m i : ℕ) → Tallied p from m i → i < length from → p (get_or from i 0) ≡ false → Tallied p from m (i + 1)
  unfolding Tallied keep
  tallied_skip m i h a e = rw (add-one i, take-suc from i 0 a, keep_skip p (take i from) (get_or from i 0) e) h

  pub tallied_more : (m i : ℕ) → Tallied p from m i → i < length from → p (get_or from i 0) ≡ true → Tallied p from (m + 1) (i + 1)
  unfolding Tallied keep
  tallied_more m i h a e = rw (add-one i, take-suc from i 0 a, keep_more p (take i from) (get_or from i 0) e, length-append (keep p (take i from)) (get_or from i 0 ∷ []), h)

-- ---- a list that is filtered in place, by position

-- the first m are what was kept of the first i, and what follows is still to come
unfoldable pub Kept : (ℕ → ℕ → Bool) → ℕ → List ℕ → List ℕ → ℕ → ℕ → Type 0
Kept f k list₀ list m i = take m list ++ keep_at f (i + 1) (drop i (take k list)) ≡ keep_at f 1 (take k list₀)

slice_more : (i k : ℕ) (l : List ℕ) → i < k → k ≤ length l → drop i (take k l) ≡ get_or l i 0 ∷ drop (i + 1) (take k l)
slice_more i k l a b = slice-cons i k l 0 a b ∙ ap (λ (n : ℕ). get_or l i 0 ∷ drop n (take k l)) (sym (add-one i))

module _ (f : ℕ → ℕ → Bool) (k : ℕ) (list₀ : List ℕ) where
  pub kept_start : Kept f k list₀ list₀ 0 0
  unfolding Kept
  kept_start = refl

  pub kept_skip : (list : List ℕ) (m i : ℕ) → Kept f k list₀ list m i → i < k → k ≤ length list → f (get_or list i 0) (i + 1) ≡ false → Kept f k list₀ list m (i + 1)
  unfolding Kept keep_at
  kept_skip list m i h a b e = rw (slice_more i k list a b, e) at h

  pub kept_more : (list : List ℕ) (m i : ℕ) → Kept f k list₀ list m i → m ≤ i → i < k → k ≤ length list → f (get_or list i 0) (i + 1) ≡ true → Kept f k list₀ (set list m (get_or list i 0)) (m + 1) (i + 1)
  unfolding Kept keep_at
  kept_more list m i h o a b e =
      let y : ℕ = get_or list i 0 in
      rw (add-one m, take-suc-set list m y (omega arith), take-set-lt k list m y (omega arith), drop-set-lt (i + 1) (take k list) m y (omega arith), append_assoc (take m list) (y ∷ []) (keep_at f (i + 1 + 1) (drop (i + 1) (take k list))))
      (rw (slice_more i k list a b, e) at h)

  pub kept_done : (list : List ℕ) (m i : ℕ) → Kept f k list₀ list m i → i ≡ k → take m list ≡ keep_at f 1 (take k list₀)
  unfolding Kept keep_at
  kept_done list m i h e =
      let g : drop i (take k list) ≡ [] = rw e (slice_empty k list) in
      sym (append-nil (take m list)) ∙ rw g at h

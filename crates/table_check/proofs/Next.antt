-- Laws of where the next child must stand: it is known at row 1, a sound row passes it on, and a row whose parent stands before it is
-- well placed exactly if it stands there and ends inside its parent. Then the rows passed.
-- Assumes nothing.
use Prim.Native.Nat.{ℕ, ◌+◌, ◌-◌, ◌<◌, ◌≤◌}
use mathlib.Core.Path.{◌≡◌, refl, sym}
use mathlib.Core.Logic.{inl, inr}
use mathlib.Core.Bool.{Bool, true, false, ◌&&◌, not, and-true, and-false, not-not}
use mathlib.Core.List.{List}
use lib.ListN.{length, get_or, set, length-set}
use lib.Seq.{get_or-set_same, get_or-set_other}
use lib.Dec.{T, leb, ltb, eqb, leb→le, eqb→eq}
use native.Mathlib.Omega.{arith}
use native.Mathlib.Nat.{eq-or-lt_of_le}
use borrow.Author.Tests.{eqb-true, ne_eqb, lt-ltb, le-ltb, le-leb, lt-leb}
use Rattle.meaning.specs.Lists.{up_to, some, lowest}
use Rattle.meaning.specs.Table.{rows, most_rows, length_allowed, kind, name, parent_of, size, end, is_element, is_text, is_attribute, good_root, nearest, good_parent, text_of_root, element_of_root, later_element, previous_sibling, text_after_text, among_attributes, stray_attribute, attribute_again, good_row, broken}
use Rattle.meaning.proofs.Bools.{and_l, and_r, and_i, truly, is_true, same, eq→eqb, lt_or_ge, eq_or_ne}
use Rattle.meaning.proofs.Lists.{none_below}
use Rattle.meaning.proofs.Tables.{ChildRow, length_within_lem, good_parent_lem, good_child_lem, nearest_largest}
use Rattle.meaning.proofs.Checks.{Passed, passed_start, passed_more, passed_found}
use Rattle.table_check.specs.Next.{good_numbers, well_placed, Stands, Next, Behind}

module _ (t : List ℕ) where
  -- the root's first child must stand at row 1
  pub next_start : (last : List ℕ) → 0 < rows t → good_root t ≡ true → get_or last 0 0 ≡ 0 → Next t 1 last
  unfolding Next good_root
  next_start last some-row root e p l =
      let g : T (good_root t) = truly root in
      let f : T (eqb (size t 0) (rows t - 1)) = search (and_l, and_r) in
      let z : p ≡ 0 = omega arith in
      rw (z, e) (record {
        within = omega (arith, eqb→eq (size t 0) (rows t - 1) f);
        ended = λ k a b c. absurd (omega arith);
        taken = λ a. absurd (omega arith);
        closed = λ a. absurd (omega arith);
      })

  module _ (i : ℕ) where
    -- a row is well placed exactly if it stands where its parent's next child must and ends inside its parent
    pub placed : (m : ℕ) → parent_of t i < i → Stands t i (parent_of t i) m → good_parent t i ≡ (eqb m i && leb (end t i) (end t (parent_of t i)))
    unfolding good_parent nearest
    placed m l s =
        let p : ℕ = parent_of t i in
        let reaches : ℕ → Bool = λ k. ltb p k && leb i (end t k) in
        same (good_parent t i) (eqb m i && leb (end t i) (end t p))
        (λ h.
        let r : T (leb i (end t p)) = search (and_l, and_r) in
        let n : T (not (some reaches (up_to i))) = search (and_l, and_r) in
        let w : T (leb (end t i) (end t p)) = search (and_l, and_r) in
        and_i (eqb m i) (leb (end t i) (end t p)) (eq→eqb m i (elim (lt_or_ge m i) [
          | inl z ↦ absurd (omega (arith, s.closed z, leb→le i (end t p) r))
          | inr z ↦ elim (eq-or-lt_of_le z) [
            | inl e ↦ sym e
            | inr z ↦
                let k = s.taken z in
                absurd (omega (arith, k.1, nearest_largest t i p n k.0 k.2 (omega (arith, k.3))))
          ]
        ])) w)
        (λ h.
        let e : m ≡ i = eqb→eq m i (and_l (eqb m i) (leb (end t i) (end t p)) h) in
        let w : T (leb (end t i) (end t p)) = and_r (eqb m i) (leb (end t i) (end t p)) h in
        let none : some reaches (up_to i) ≡ false =
        none_below reaches i (λ k b. elim (lt_or_ge p k) [
          | inl a ↦ rw (lt-leb i (end t k) (omega (arith, s.ended k a (omega arith) b)), and-false (ltb p k))
          | inr a ↦ rw (le-ltb p k a)
        ]) in
        rw (lt-ltb p i l, le-leb i (end t p) (omega (arith, leb→le (end t i) (end t p) w)), none) w)

    -- and not where its parent does not stand before it
    pub misplaced : i ≤ parent_of t i → good_parent t i ≡ false
    unfolding good_parent nearest
    misplaced h = rw (le-ltb (parent_of t i) i h)

    -- a row that is not well placed is not good; of one that is, the rules for attributes decide, those for a child of the root, or the one
    -- for texts
    pub ill_placed : well_placed t i ≡ false → good_row t i ≡ false
    unfolding good_row
    ill_placed h = rw h

    pub good_attribute : well_placed t i ≡ true → is_attribute t i ≡ true → good_row t i ≡ (among_attributes t i && not (attribute_again t i))
    unfolding good_row text_of_root later_element element_of_root text_after_text stray_attribute
    good_attribute h a = rw (h, eqb-true (kind t i) 5 a, not-not (among_attributes t i))

    module _ (plain : is_attribute t i ≡ false) where
      pub good_of_root : well_placed t i ≡ true → parent_of t i ≡ 0 → good_row t i ≡ (not (text_of_root t i) && not (later_element t i))
      unfolding good_row text_of_root text_after_text stray_attribute attribute_again
      good_of_root h e = rw (h, e, plain) (by (is_text t i))
        where
          by : (b : Bool) → (not (b && true) && not (later_element t i) && not (b && some (λ j. previous_sibling t i j && is_text t j) (up_to i)) && true && true) ≡ (not (b && true) && not (later_element t i))
          by true = refl
          by false = simp and-true

      pub good_inner : well_placed t i ≡ true → (parent_of t i ≡ 0 → ⊥) → good_row t i ≡ not (text_after_text t i)
      unfolding good_row text_of_root later_element element_of_root stray_attribute attribute_again
      good_inner h d = rw (h, ne_eqb (parent_of t i) 0 d, and-false (is_text t i), and-false (is_element t i), plain) (simp and-true)

    -- a good row is well placed, and a well placed row's parent is as the rules have it
    pub good_placed : T (good_row t i) → T (well_placed t i)
    unfolding good_row
    good_placed g = search and_l

    pub placed_parent : well_placed t i ≡ true → good_parent t i ≡ true
    placed_parent h = is_true (good_parent t i) (and_r (good_numbers (kind t i) (name t i) (size t i)) (good_parent t i) (truly h))

    module _ (c : ChildRow t i) (m : ℕ) (s : Stands t i (parent_of t i) m) where
      -- the first child of row i must stand right behind it
      stands_own : Stands t (i + 1) i (i + 1)
      stands_own = record {
        within = omega (arith, c.within, s.within);
        ended = λ k a b d. absurd (omega arith);
        taken = λ a. absurd (omega arith);
        closed = λ a. absurd (omega arith);
      }

      -- its parent's next child must stand behind its subtree
      stands_parent : m ≡ i → Stands t (i + 1) (parent_of t i) (end t i + 1)
      stands_parent here = record {
        within = s.within;
        ended = λ k a b d. elim (eq-or-lt_of_le {n = k} {m = i} (omega arith)) [
          | inl e ↦ rw e (omega arith)
          | inr l ↦ omega (arith, s.ended k a (omega arith) l)
        ];
        taken = λ a. (i, c.below, omega arith, refl);
        closed = λ a. absurd (omega arith);
      }

    -- any other row's next child must stand where it did
    stands_other : ChildRow t i → (p m : ℕ) → p < i → (p ≡ parent_of t i → ⊥) → Stands t i p m → Stands t (i + 1) p m
    stands_other c p m l q s = record {
      within = s.within;
      ended = λ k a b d. elim (eq-or-lt_of_le {n = k} {m = i} (omega arith)) [
        | inl e ↦
            let w = s.taken (omega arith) in
            let above : w.0 ≤ parent_of t i = c.largest w.0 w.2 (omega (arith, w.3)) in
            rw e (omega (arith, c.within, s.ended (parent_of t i) (omega (arith, w.1)) (omega (arith, c.below)) c.below))
        | inr z ↦ s.ended k a b z
      ];
      taken = λ a. let w = s.taken (omega arith) in (w.0, w.1, omega (arith, w.2), w.3);
      closed = λ a. elim (eq-or-lt_of_le {n = m} {m = i} (omega arith)) [
        | inr z ↦ s.closed z
        | inl e ↦ elim (lt_or_ge (end t p) m) [
          | inl z ↦ z
          | inr z ↦
              let above : p ≤ parent_of t i = c.largest p l (omega arith) in
              absurd (omega (arith, c.reached, s.ended (parent_of t i) (omega (arith, q)) (omega (arith, c.below)) c.below))
        ]
      ];
    }

    module _ (last : List ℕ) (known : Next t i last) (sound : good_row t i ≡ true) where
      -- what a sound row's parent says, and that the row stands where that one's last child must
      pub sound_child : ChildRow t i
      sound_child = good_child_lem t i (truly sound)

      pub parent_stands : Stands t i (parent_of t i) (get_or last (parent_of t i) 0 + 1)
      unfolding Next
      parent_stands = known (parent_of t i) sound_child.below

      stands_here : get_or last (parent_of t i) 0 + 1 ≡ i
      stands_here =
          let m : ℕ = get_or last (parent_of t i) 0 + 1 in
          let h : T (good_parent t i) = good_parent_lem t i (truly sound) in
          eqb→eq m i (and_l (eqb m i) (leb (end t i) (end t (parent_of t i))) (rw (placed m sound_child.below parent_stands) at h))

      -- a sound row passes it on
      pub next_more : i < length last → Next t (i + 1) (set (set last i i) (parent_of t i) (end t i))
      unfolding Next
      next_more a p l =
          let c : ChildRow t i = sound_child in
          let q : ℕ = parent_of t i in
          let own : List ℕ = set last i i in
          let b : q < length own = simp length-set (omega (arith, c.below)) in
          elim (eq_or_ne p q) [
            | inl z ↦ rw (z, get_or-set_same own q (end t i) 0 b) (stands_parent c (get_or last q 0 + 1) parent_stands stands_here)
            | inr z ↦ elim (eq_or_ne p i) [
              | inl y ↦ rw (y, get_or-set_other own q i (end t i) 0 (λ y. omega (arith, c.below)), get_or-set_same last i i 0 a) (stands_own c (get_or last q 0 + 1) parent_stands)
              | inr y ↦ rw (get_or-set_other own q p (end t i) 0 z, get_or-set_other last i p i 0 y) (stands_other c p (get_or last p 0 + 1) (omega (arith, y)) z (known p (omega (arith, y))))
            ]
          ]

  -- ---- the rows passed

  pub row_broken : (i : ℕ) → 0 < i → broken t i ≡ not (good_row t i)
  unfolding broken
  row_broken i p = rw (ne_eqb i 0 (λ e. omega arith))

  pub sound_more : (i : ℕ) → 0 < i → Passed (broken t) i → good_row t i ≡ true → Passed (broken t) (i + 1)
  sound_more i p s h = passed_more (broken t) i s (rw (row_broken i p, h))

  -- a row behind those passed stands behind sound rows
  pub passed_behind : (i : ℕ) → 0 < i → i < rows t → Passed (broken t) i → Behind t i
  unfolding Passed
  passed_behind i p l s = record { inner = p; row = l; sound = s }

  -- the root is the lowest broken row if it is not good
  pub lowest_root : 0 < rows t → good_root t ≡ false → 0 ≡ lowest (broken t) (rows t)
  unfolding broken
  lowest_root l h = passed_found (broken t) (rows t) 0 (passed_start (broken t)) l (rw h)

  -- a length that is allowed has some rows, and few
  pub allowed_rows : length_allowed t ≡ true → (0 < rows t) × (rows t ≤ most_rows)
  allowed_rows h = let r = length_within_lem most_rows t (truly h) in (r.1, r.2)

-- Laws of the rows before row i, none of which is broken: the rules of document 02's W-206 from the first element of the table, the row
-- before and the row itself.
-- Assumes nothing.
use Prim.Native.Nat.{ℕ, ◌+◌, ◌-◌, ◌<◌, ◌≤◌}
use mathlib.Core.Path.{◌≡◌, ◌∙◌}
use mathlib.Core.Logic.{inl, inr}
use mathlib.Core.Bool.{true, false, ◌&&◌, not, and-true}
use mathlib.Core.List.{List}
use lib.Dec.{T, ltb, eqb, ltb→lt, eqb→eq, lt→ltb}
use native.Mathlib.Omega.{arith}
use native.Mathlib.Nat.{eq-or-lt_of_le}
use native.Mathlib.Numerals.{add-one}
use borrow.Author.Tests.{lt-ltb, le-ltb, eq-eqb}
use Rattle.meaning.specs.Lists.{up_to, some}
use Rattle.meaning.specs.Table.{kind, name, parent_of, size, rows, end, good_root, is_element, is_text, is_attribute, has_element, good_parent, element_of_root, later_element, sibling_before, previous_sibling, text_after_text}
use Rattle.meaning.proofs.Bools.{and_l, and_r, and_i, truly, untrue, same, is_true, is_false, not_e, lt_or_ge}
use Rattle.meaning.proofs.Lists.{some_to, some_from, has_up_to_to, has_up_to_from, none_below, lowest_some, lowest_below, lowest_at}
use Rattle.meaning.proofs.Tables.{Sound, row_holds, ChildRow, good_child_lem, parent_child}
use Rattle.meaning.proofs.DataModel.{inner, holder, first_of_root, among_row, among}
use Rattle.table_check.specs.Next.{first_element}

-- the table has an element exactly if the first stands below the row count
pub has_first : (t : List ℕ) → has_element t ≡ ltb (first_element t) (rows t)
unfolding has_element
has_first t = lowest_some (is_element t) (rows t)

-- a good root is the tests of its row, and that
pub root_tests : (t : List ℕ) → good_root t ≡ (eqb (kind t 0) 0 && eqb (name t 0) 0 && eqb (parent_of t 0) 0 && eqb (size t 0) (rows t - 1) && ltb (first_element t) (rows t))
unfolding good_root
root_tests t = rw (has_first t)

module _ (t : List ℕ) (i : ℕ) (sound : Sound t i) where
  -- an element child of the root stands after another exactly if it is not the table's first element
  pub later_than_first : i < rows t → later_element t i ≡ (is_element t i && eqb (parent_of t i) 0 && ltb (first_element t) i)
  unfolding later_element element_of_root
  later_than_first row = same (later_element t i) (is_element t i && eqb (parent_of t i) 0 && ltb first i)
      (λ h.
      let w = some_to (element_of_root t) (up_to i) (and_r (element_of_root t i) (some (element_of_root t) (up_to i)) h) in
      let z : ℕ = w.0 in
      let e : T (is_element t z) = and_l (is_element t z) (eqb (parent_of t z) 0) w.1 in
      and_i (element_of_root t i) (ltb first i) (and_l (element_of_root t i) (some (element_of_root t) (up_to i)) h) (elim (lt_or_ge first i) [
        | inl l ↦ lt→ltb first i l
        | inr k ↦ absurd (untrue (lowest_below (is_element t) (rows t) z (omega (arith, has_up_to_to i z w.2))) e)
      ]))
      (λ h.
      let l : first < i = ltb→lt first i (and_r (element_of_root t i) (ltb first i) h) in
      let e : T (is_element t first) = truly (lowest_at (is_element t) (rows t) (omega arith)) in
      let q : T (element_of_root t first) = first_of_root t i sound first l e (lowest_below (is_element t) (rows t)) in
      and_i (element_of_root t i) (some (element_of_root t) (up_to i)) (and_l (element_of_root t i) (ltb first i) h) (some_from (element_of_root t) (up_to i) first q (has_up_to_from i first l)))
    where
      first : ℕ
      first = first_element t

  -- a text is no attribute
  text_plain : (j : ℕ) → T (is_text t j) → is_attribute t j ≡ false
  text_plain j x = rw (eqb→eq (kind t j) 2 x)

  -- a text ends where it stands
  text_alone : (j : ℕ) → 0 < j → j < i → T (is_text t j) → end t j ≡ j
  text_alone j p l x = elim (lt_or_ge j (end t j)) [
    | inl m ↦ absurd (omega (arith, eqb→eq (kind t j) 1 (holder t i sound j p l m), eqb→eq (kind t j) 2 x))
    | inr m ↦ omega arith
  ]

  -- the row behind a text has the text's parent, where that reaches so far
  behind_text : (j : ℕ) → 0 < j → j + 1 < i → T (is_text t j) → j + 1 ≤ end t (parent_of t j) → parent_of t (j + 1) ≡ parent_of t j
  behind_text j p l x r =
      let c : ChildRow t j = good_child_lem t j (row_holds t i sound j p (omega arith)) in
      let d : ChildRow t (j + 1) = good_child_lem t (j + 1) (row_holds t i sound (j + 1) (omega arith) l) in
      let q : ℕ = parent_of t (j + 1) in
      elim (eq-or-lt_of_le {n = q} {m = j} (omega (arith, d.below))) [
        | inl e ↦ absurd (omega (arith, text_alone j p (omega arith) x, rw e at d.reached))
        | inr m ↦ omega (arith, c.largest q m (omega (arith, d.reached)), d.largest (parent_of t j) (omega (arith, c.below)) r)
      ]

  -- and is no attribute: those stand straight behind elements and attributes
  behind_text_plain : (j : ℕ) → j + 1 < i → T (is_text t j) → is_attribute t (j + 1) ≡ false
  behind_text_plain j l x = is_false (is_attribute t (j + 1)) (λ a.
      let text : kind t j ≡ 2 = eqb→eq (kind t j) 2 x in
      elim (among_row t j (rw (add-one j) at (among t i sound (j + 1) l a))) [
        | inl m ↦ omega (arith, eqb→eq (kind t j) 1 m.0)
        | inr m ↦ omega (arith, eqb→eq (kind t j) 5 m.0)
      ])

  -- a text that is the previous sibling of row i is the row before it
  text_is_before : ChildRow t i → (j : ℕ) → j < i → T (previous_sibling t i j) → T (is_text t j) → j + 1 ≡ i
  unfolding previous_sibling
  text_is_before c j l h x =
      let p : T (ltb 0 j) = search (and_l, and_r) in
      let e : T (eqb (parent_of t j) (parent_of t i)) = search (and_l, and_r) in
      let plain : T (not (is_attribute t i)) = search (and_l, and_r) in
      let alone : T (not (some (λ k. ltb j k && sibling_before t i k) (up_to i))) = search (and_l, and_r) in
      let shared : parent_of t j ≡ parent_of t i = eqb→eq (parent_of t j) (parent_of t i) e in
      elim (eq-or-lt_of_le {n = j + 1} {m = i} (omega arith)) [
        | inl s ↦ s
        | inr m ↦
            let k : ℕ = j + 1 in
            let so : parent_of t k ≡ parent_of t i = behind_text j (ltb→lt 0 j p) m x (rw shared (omega (arith, c.reached))) ∙ shared in
            let b : T (ltb j k && sibling_before t i k) = rw (lt-ltb j k (omega arith), lt-ltb 0 k (omega arith), lt-ltb k i m, eq-eqb (parent_of t k) (parent_of t i) so, behind_text_plain j m x, and-true) plain in
            absurd (not_e (some (λ k. ltb j k && sibling_before t i k) (up_to i)) alone (some_from (λ k. ltb j k && sibling_before t i k) (up_to i) k b (has_up_to_from i k m)))
      ]

  -- a text's previous sibling is text exactly if the row before is one with the same parent
  pub text_before : 0 < i → good_parent t i ≡ true → text_after_text t i ≡ (is_text t i && is_text t (i - 1) && eqb (parent_of t (i - 1)) (parent_of t i))
  unfolding text_after_text previous_sibling
  text_before p g = same (text_after_text t i) (is_text t i && is_text t (i - 1) && eqb (parent_of t (i - 1)) (parent_of t i))
      (λ h.
      let w = some_to (λ j. previous_sibling t i j && is_text t j) (up_to i) (and_r (is_text t i) (some (λ j. previous_sibling t i j && is_text t j) (up_to i)) h) in
      let j : ℕ = w.0 in
      let b : T (previous_sibling t i j) = and_l (previous_sibling t i j) (is_text t j) w.1 in
      let x : T (is_text t j) = and_r (previous_sibling t i j) (is_text t j) w.1 in
      let e : T (eqb (parent_of t j) (parent_of t i)) = search (and_l, and_r) in
      let s : i - 1 ≡ j = omega (arith, text_is_before (parent_child t i (truly g)) j (has_up_to_to i j w.2) b x) in
      rw s (and_i (is_text t i && is_text t j) (eqb (parent_of t j) (parent_of t i)) (and_i (is_text t i) (is_text t j) (and_l (is_text t i) (some (λ j. previous_sibling t i j && is_text t j) (up_to i)) h) x) e))
      (λ h.
      let j : ℕ = i - 1 in
      let y : T (is_text t i) = search (and_l, and_r) in
      let x : T (is_text t j) = search (and_l, and_r) in
      let e : T (eqb (parent_of t j) (parent_of t i)) = search (and_l, and_r) in
      let q : 0 < j = inner t i sound j 1 (omega arith) (eqb→eq (kind t j) 2 x) in
      let alone : some (λ k. ltb j k && sibling_before t i k) (up_to i) ≡ false = none_below (λ k. ltb j k && sibling_before t i k) i (λ k l. rw (le-ltb j k (omega arith))) in
      let b : T (previous_sibling t i j && is_text t j) = rw (alone, lt-ltb 0 j q, lt-ltb j i (omega arith), is_true (eqb (parent_of t j) (parent_of t i)) e, text_plain i y, text_plain j x) x in
      and_i (is_text t i) (some (λ j. previous_sibling t i j && is_text t j) (up_to i)) y (some_from (λ j. previous_sibling t i j && is_text t j) (up_to i) j b (has_up_to_from i j (omega arith))))

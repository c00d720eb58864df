-- The data model (document 02, W-206 and W-209): the tables that are accepted are trees of the Recommendation's data model. Exactly one
-- child of the root is an element and none is text; no two texts are neighbours as siblings; attributes have elements for parents, and
-- no two of one element have one name.
-- Assumes nothing.
use Prim.Native.Nat.{ℕ, zero, suc, ◌+◌, ◌-◌, ◌<◌, ◌≤◌}
use mathlib.Core.Path.{◌≡◌, sym, ◌∙◌}
use mathlib.Core.Logic.{◌⊎◌, inl, inr}
use mathlib.Core.Bool.{Bool, true, false, ◌&&◌, ◌||◌, not, and-false}
use mathlib.Core.List.{List, []}
use lib.ListN.{length}
use lib.Dec.{T, ltb, eqb, eqb→eq, ltb→lt, lt→ltb}
use native.Mathlib.Omega.{arith}
use borrow.Author.Tests.{le-ltb}
use Rattle.meaning.specs.Lists.{up_to, keep, some, lowest}
use Rattle.meaning.specs.Table.{kind, parent_of, name, size, rows, end, is_element, is_text, is_attribute, has_element, good_root, good_size, good_row, text_of_root, element_of_root, later_element, sibling_before, previous_sibling, text_after_text, among_attributes, stray_attribute, same_attribute, attribute_again, accepted}
use Rattle.meaning.specs.Axis.{under, on, ordered, is_reverse, axis_nodes, place, principal, passes, candidates}
use Rattle.meaning.specs.declared.Axis.TheVariants.{Attribute, Child, PrecedingSibling}
use Rattle.meaning.specs.declared.Test.{Test}
use Rattle.meaning.specs.declared.Test.TheVariants.{Star, Text}
use Rattle.meaning.proofs.Bools.{and_l, and_r, and_i, or_e, is_true, is_false, truly, untrue, not_e, not_false, eq→eqb, lt_or_ge, eq_or_ne}
use Rattle.meaning.proofs.Lists.{IsLowest, lowest_found, some_from, has_up_to_from, none_below, up_to_at, length_up_to, keep_keep, keep_none, keep_all, place_largest}
use Rattle.meaning.proofs.Ranges.{range, keep_range, range_length}
use Rattle.meaning.proofs.Tables.{Sound, root_kind, root_holds, row_holds, ChildRow, good_child_lem, whole, some_row}

-- an element is no attribute
pub element_plain : (t : List ℕ) (i : ℕ) → T (is_element t i) → is_attribute t i ≡ false
element_plain t i e = rw (eqb→eq (kind t i) 1 e)

-- what lies on the attribute axis is not row 0, has x for its parent and is an attribute; and such a row lies there
pub attribute_parts : (t : List ℕ) (x y : ℕ) → T (on t Attribute x y) → (0 < y) × (parent_of t y ≡ x) × T (is_attribute t y)
unfolding on under
attribute_parts t x y h =
    let u : T (under t x y) = and_l (under t x y) (is_attribute t y) h in
    (ltb→lt 0 y (and_l (ltb 0 y) (eqb (parent_of t y) x) u), eqb→eq (parent_of t y) x (and_r (ltb 0 y) (eqb (parent_of t y) x) u), and_r (under t x y) (is_attribute t y) h)

pub attribute_of : (t : List ℕ) (x y : ℕ) → 0 < y → parent_of t y ≡ x → T (is_attribute t y) → T (on t Attribute x y)
unfolding on under
attribute_of t x y p e a = and_i (under t x y) (is_attribute t y) (and_i (ltb 0 y) (eqb (parent_of t y) x) (lt→ltb 0 y p) (eq→eqb (parent_of t y) x e)) a

-- a row that stands among attributes has the row before it for its parent, or that one's parent
pub among_row : (t : List ℕ) (i : ℕ) → T (among_attributes t (suc i)) → (T (is_element t i) × (parent_of t (suc i) ≡ i)) ⊎ (T (is_attribute t i) × (parent_of t (suc i) ≡ parent_of t i))
unfolding among_attributes
among_row t i h =
    let e : suc i - 1 ≡ i = omega arith in
    let first : Bool = is_element t i && eqb (parent_of t (suc i)) i in
    let next : Bool = is_attribute t i && eqb (parent_of t (suc i)) (parent_of t i) in
    let s : T (first || next) = rw e at h in
    or_e first next s
    (λ m. inl (and_l (is_element t i) (eqb (parent_of t (suc i)) i) m, eqb→eq (parent_of t (suc i)) i (and_r (is_element t i) (eqb (parent_of t (suc i)) i) m)))
    (λ m. inr (and_l (is_attribute t i) (eqb (parent_of t (suc i)) (parent_of t i)) m, eqb→eq (parent_of t (suc i)) (parent_of t i) (and_r (is_attribute t i) (eqb (parent_of t (suc i)) (parent_of t i)) m)))

module _ (t : List ℕ) (n : ℕ) (sound : Sound t n) where
  -- only the root has its kind
  pub inner : (i k : ℕ) → i < n → kind t i ≡ suc k → 0 < i
  inner i k l e = elim (lt_or_ge 0 i) [
    | inl p ↦ p
    | inr z ↦ let s : i ≡ 0 = omega arith in absurd (omega (arith, root_kind t (root_holds t n sound (omega arith)), rw s at e))
  ]

  -- a row inside which others stand is the root or an element
  pub holder : (i : ℕ) → 0 < i → i < n → i < end t i → T (is_element t i)
  unfolding good_row good_size
  holder i p l more =
      let g : T (good_row t i) = row_holds t n sound i p l in
      let f : T (is_element t i || eqb (size t i) 0) = search (and_l, and_r) depth 9 in
      or_e (is_element t i) (eqb (size t i) 0) f (λ h. h) (λ h. absurd (omega (arith, eqb→eq (size t i) 0 h)))

  -- the first element is a child of the root
  pub first_of_root : (i : ℕ) → i < n → T (is_element t i) → ((j : ℕ) → j < i → is_element t j ≡ false) → T (element_of_root t i)
  unfolding element_of_root
  first_of_root i l e first =
      let p : 0 < i = inner i 0 l (eqb→eq (kind t i) 1 e) in
      let c : ChildRow t i = good_child_lem t i (row_holds t n sound i p l) in
      and_i (is_element t i) (eqb (parent_of t i) 0) e (eq→eqb (parent_of t i) 0 (elim (lt_or_ge 0 (parent_of t i)) [
        | inr z ↦ omega arith
        | inl q ↦ absurd (untrue (first (parent_of t i) c.below) (holder (parent_of t i) q (omega (arith, c.below)) (omega (arith, c.below, c.reached))))
      ]))

  -- an attribute stands among those of its element
  pub among : (i : ℕ) → i < n → T (is_attribute t i) → T (among_attributes t i)
  unfolding good_row stray_attribute
  among i l a =
      let g : T (good_row t i) = row_holds t n sound i (inner i 4 l (eqb→eq (kind t i) 5 a)) l in
      let f : T (not (is_attribute t i && not (among_attributes t i))) = search (and_l, and_r) in
      not_false (among_attributes t i) (is_false (not (among_attributes t i)) (λ m. not_e (is_attribute t i && not (among_attributes t i)) f (and_i (is_attribute t i) (not (among_attributes t i)) a m)))

  -- the parent of a row that stands among attributes is an element
  pub among_element : (i : ℕ) → 0 < i → i ≤ n → T (among_attributes t i) → T (is_element t (parent_of t i))
  among_element zero p l h = absurd (omega arith)
  among_element (suc i) p l h = elim (among_row t i h) [
    | inl m ↦ rw m.1 m.0
    | inr m ↦ rw m.1 (among_element i (inner i 4 (omega arith) (eqb→eq (kind t i) 5 m.0)) (omega arith) (among i (omega arith) m.0))
  ]

  -- and no attribute before it has a later parent
  pub among_ascend : (i : ℕ) → 0 < i → i ≤ n → T (among_attributes t i) → (k : ℕ) → k < i → T (is_attribute t k) → parent_of t k ≤ parent_of t i
  among_ascend zero p l h k m a = absurd (omega arith)
  among_ascend (suc i) p l h k m a = elim (among_row t i h) [
    | inl r ↦ omega (arith, r.1, (good_child_lem t k (row_holds t n sound k (inner k 4 (omega arith) (eqb→eq (kind t k) 5 a)) (omega arith))).below)
    | inr r ↦ elim (eq_or_ne k i) [
      | inl z ↦ rw (z, r.1) (omega arith)
      | inr z ↦ rw r.1 (among_ascend i (inner i 4 (omega arith) (eqb→eq (kind t i) 5 r.0)) (omega arith) (among i (omega arith) r.0) k (omega (arith, z)) a)
    ]
  ]

module _ (t : List ℕ) (acc : accepted t ≡ true) where
  -- the attribute axis is empty but for elements
  pub attributes_of_elements : (x y : ℕ) → y < rows t → T (on t Attribute x y) → T (is_element t x)
  attributes_of_elements x y l h =
      let r = attribute_parts t x y h in
      rw (← r.1) (among_element t (rows t) (whole t acc) y r.0 (omega arith) (among t (rows t) (whole t acc) y l r.2))

  -- the rules that an accepted table's rows keep
  keeps : (i : ℕ) → 0 < i → i < rows t → T (not (text_of_root t i)) × T (not (later_element t i)) × T (not (text_after_text t i)) × T (not (attribute_again t i))
  unfolding good_row
  keeps i p h =
      let g : T (good_row t i) = row_holds t (rows t) (whole t acc) i p h in
      (search (and_l, and_r), search (and_l, and_r), search (and_l, and_r), search (and_l, and_r))

  -- the children of the root that pass a test
  of_root : (edition : ℕ) (u : Test) → candidates edition t Child u 0 ≡ keep (λ y. on t Child 0 y && passes edition t 1 u y) (up_to (rows t))
  unfolding candidates axis_nodes is_reverse ordered principal
  of_root edition u = keep_keep (on t Child 0) (passes edition t 1 u) (up_to (rows t))

  -- none is text
  pub no_text_of_root : (edition : ℕ) → candidates edition t Child Text 0 ≡ []
  unfolding on under passes text_of_root
  no_text_of_root edition = of_root edition Text ∙ keep_none (λ y. on t Child 0 y && passes edition t 1 Text y) (up_to (rows t)) (λ i h.
      let l : i < rows t = rw length_up_to at h in
      rw (← up_to_at (rows t) i l) (is_false (ltb 0 i && eqb (parent_of t i) 0 && not (is_attribute t i) && is_text t i) (λ b.
      let p : T (ltb 0 i) = search (and_l, and_r) in
      let q : T (eqb (parent_of t i) 0) = search (and_l, and_r) in
      let r : T (is_text t i) = search (and_l, and_r) in
      not_e (text_of_root t i) (keeps i (ltb→lt 0 i p) l).0 (and_i (is_text t i) (eqb (parent_of t i) 0) r q))))

  -- the first element, which is a child of the root
  first : IsLowest (is_element t) (rows t) (lowest (is_element t) (rows t))
  unfolding good_root has_element
  first =
      let g : T (good_root t) = root_holds t (rows t) (whole t acc) (some_row t acc) in
      let h : T (has_element t) = search (and_l, and_r) in
      lowest_found (is_element t) (rows t) (is_true (has_element t) h)

  -- exactly one is an element, as `*` has it in edition 2
  pub one_element_of_root : length (candidates 2 t Child Star 0) ≡ 1
  unfolding on under passes element_of_root later_element
  one_element_of_root =
      let x : ℕ = lowest (is_element t) (rows t) in
      let q : T (element_of_root t x) = first_of_root t (rows t) (whole t acc) x first.below (truly first.holds) first.first in
      let is : ℕ → Bool = λ y. on t Child 0 y && passes 2 t 1 Star y in
      let p : T (ltb 0 x) = lt→ltb 0 x (inner t (rows t) (whole t acc) x 0 first.below (eqb→eq (kind t x) 1 (truly first.holds))) in
      let at_first : T (is x) = rw (is_true (ltb 0 x) p, is_true (eqb (parent_of t x) 0) (and_r (is_element t x) (eqb (parent_of t x) 0) q), element_plain t x (truly first.holds)) (truly first.holds) in
      rw (
        of_root 2 Star,
        keep_range (rows t) x (x + 1) (omega (arith, first.below)) is (λ y. true)
            (λ y l. rw (first.first y l, and-false (on t Child 0 y)))
            (λ y k l. is_false (is y) (λ b.
            let e : T (eqb (parent_of t y) 0) = search (and_l, and_r) in
            let r : T (is_element t y) = search (and_l, and_r) in
            not_e (later_element t y) (keeps y (omega arith) l).1 (and_i (element_of_root t y) (some (element_of_root t) (up_to y)) (and_i (is_element t y) (eqb (parent_of t y) 0) r e)
            (some_from (element_of_root t) (up_to y) x q (has_up_to_from y x (omega arith))))))
            (λ y k l. let s : y ≡ x = omega arith in rw s (is_true (is x) at_first)),
        keep_all (range (rows t) x (x + 1)),
      )
      (range_length (rows t) x (x + 1) (omega (arith, first.below)) ∙ omega arith)

  -- no two texts are neighbours as siblings: of a node and the first on its preceding-sibling axis one is no text
  pub no_neighbour_texts : (i j : ℕ) → i < rows t → place t PrecedingSibling i j ≡ 1 → (is_text t i && is_text t j) ≡ false
  unfolding place axis_nodes on is_reverse ordered previous_sibling text_after_text
  no_neighbour_texts i j h e =
      let r = place_largest (sibling_before t i) (rows t) j e in
      let b : T (sibling_before t i j) = r.0 in
      let l : T (ltb j i) = search (and_l, and_r) in
      let alone : some (λ k. ltb j k && sibling_before t i k) (up_to i) ≡ false = none_below (λ k. ltb j k && sibling_before t i k) i (λ k a. elim (lt_or_ge j k) [
        | inl m ↦ rw (r.1 k m (omega arith), and-false (ltb j k))
        | inr m ↦ rw (le-ltb j k m)
      ]) in
      is_false (is_text t i && is_text t j) (λ both.
      not_e (text_after_text t i) (keeps i (omega (arith, ltb→lt j i l)) h).2
      (and_i (is_text t i) _ (and_l (is_text t i) (is_text t j) both) (some_from (λ j. previous_sibling t i j && is_text t j) (up_to i) j (rw (is_true (sibling_before t i j) b, alone) (and_r (is_text t i) (is_text t j) both)) (has_up_to_from i j (ltb→lt j i l)))))

  -- no two attributes of one element have one name
  pub names_differ : (x y z : ℕ) → y < rows t → z < rows t → T (on t Attribute x y) → T (on t Attribute x z) → name t y ≡ name t z → y ≡ z
  unfolding attribute_again same_attribute
  names_differ x y z h k o q e = elim (lt_or_ge y z) [
    | inl l ↦ absurd (twice y z l k o q e)
    | inr m ↦ elim (lt_or_ge z y) [
      | inl l ↦ absurd (twice z y l h q o (sym e))
      | inr l ↦ omega arith
    ]
  ]
    where
      twice : (j i : ℕ) → j < i → i < rows t → T (on t Attribute x j) → T (on t Attribute x i) → name t j ≡ name t i → ⊥
      twice j i l h o q e =
          let r = attribute_parts t x j o in
          let u = attribute_parts t x i q in
          let s : T (is_attribute t j && eqb (parent_of t j) (parent_of t i) && eqb (name t j) (name t i)) =
          and_i (is_attribute t j && eqb (parent_of t j) (parent_of t i)) (eqb (name t j) (name t i)) (and_i (is_attribute t j) (eqb (parent_of t j) (parent_of t i)) r.2 (eq→eqb (parent_of t j) (parent_of t i) (r.1 ∙ sym u.1))) (eq→eqb (name t j) (name t i) e) in
          not_e (attribute_again t i) (keeps i (omega arith) h).3 (and_i (is_attribute t i) _ u.2 (some_from (same_attribute t i) (up_to i) j s (has_up_to_from i j l)))

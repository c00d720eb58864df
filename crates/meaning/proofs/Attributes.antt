-- Attributes (document 02, W-209): from a node that is no attribute only the attribute axis leads to one, so a walk without a step on it
-- meets none. That is why demand 3 and W-208 speak of nodes that are no attributes, and lose nothing by it.
-- Assumes nothing.
use Prim.Native.Nat.{ℕ, zero, suc, ◌+◌, ◌-◌, ◌<◌, ◌≤◌}
use mathlib.Core.Path.{◌≡◌, sym, ◌∙◌}
use mathlib.Core.Logic.{inl, inr}
use mathlib.Core.Bool.{Bool, true, false, ◌&&◌, not, cond}
use mathlib.Core.List.{List}
use lib.ListN.{length, get_or, take, length-take}
use lib.Seq.{slice, length-slice, get_or-take, get_or-drop}
use lib.Dec.{T, leb, ltb, eqb, ltb→lt, leb→le, eqb→eq}
use lib.Ieee.{Float}
use native.Mathlib.Omega.{arith}
use Rattle.meaning.specs.Lists.{keep, some, has, up_to, place_from}
use Rattle.meaning.specs.Table.{kind, parent_of, rows, end, is_attribute, accepted}
use Rattle.meaning.specs.Axis.{axis_of, test_of, under, inside, after, on, is_reverse, ordered, axis_nodes, place, principal, candidates, passes}
use Rattle.meaning.specs.declared.Axis.{Axis}
use Rattle.meaning.specs.declared.Axis.TheVariants.{Ancestor, AncestorOrSelf, Attribute, Child, Descendant, DescendantOrSelf, Following, FollowingSibling, Itself, Parent, Preceding, PrecedingSibling}
use Rattle.meaning.specs.Tree.{Tree, none, node}
use Rattle.meaning.specs.Meaning.{union, walk, filtered}
use Rattle.meaning.specs.Turning.{some_step, is_of_attributes, of_attributes}
use Rattle.meaning.proofs.Bools.{and_l, and_r, or_e, or_none_l, or_none_r, is_true, is_false, not_e, lt_or_ge, eq_or_ne}
use Rattle.meaning.proofs.Lists.{some_to, has_keep_to, has_up_to_to, length_up_to, up_to_at, keep_slice, keep_each, keep_at_among, order_monotone, place_kept}
use Rattle.meaning.proofs.Tables.{Plain, ChildRow, child, root_kind, root_holds, whole, some_row}
use Rattle.meaning.proofs.DataModel.{attribute_parts, attribute_of, inner, holder, element_plain, among_row, among}
use Rattle.meaning.proofs.Decoding.{principal_kind}
use Rattle.meaning.proofs.Places.{placed, placed_on, candidate_is}

-- a step that is not on the attribute axis: `*` and names match elements
pub usual_step : (b : Tree) (c : ℕ) → is_of_attributes b c ≡ false → principal (axis_of c) ≡ 1
usual_step b c e = principal_kind c ∙ rw e

-- predicates keep of a list what stands in it
filtered_among : (edition : ℕ) (t : List ℕ) (literals : List Float) (e : Tree) (l : List ℕ) (y : ℕ) → T (has (filtered edition t literals e l) y) → T (has l y)
unfolding filtered
filtered_among edition t literals none l y h = h
filtered_among edition t literals (node op a b c d) l y h = filtered_among edition t literals a l y (keep_at_among _ 1 (filtered edition t literals a l) y h)

module _ (t : List ℕ) (acc : accepted t ≡ true) where
  -- the root is no attribute
  root_plain : Plain t 0
  root_plain = (some_row t acc, rw (root_kind t (root_holds t (rows t) (whole t acc) (some_row t acc))))

  -- so a path starts from no attribute if it is not handed one
  pub start_plain : (absolute : Bool) (x : ℕ) → Plain t x → (z : ℕ) → T (has (keep (eqb (cond absolute 0 x)) (up_to (rows t))) z) → Plain t z
  start_plain absolute x h z m = let e : cond absolute 0 x ≡ z = eqb→eq (cond absolute 0 x) z (has_keep_to (eqb (cond absolute 0 x)) (up_to (rows t)) z m).0 in rw (← e) (by absolute)
    where
      by : (b : Bool) → Plain t (cond b 0 x)
      by true = root_plain
      by false = h

  -- a row that holds others is no attribute
  holder_plain : (y : ℕ) → y < rows t → y < end t y → is_attribute t y ≡ false
  holder_plain y l more = elim (lt_or_ge 0 y) [
    | inl p ↦ element_plain t y (holder t (rows t) (whole t acc) y p l more)
    | inr z ↦ let e : y ≡ 0 = omega arith in rw e root_plain.1
  ]

  -- no more is one inside which another row stands
  pub inside_plain : (x y : ℕ) → x < rows t → T (inside t y x) → is_attribute t y ≡ false
  unfolding inside
  inside_plain x y h k =
      let a : y < x = ltb→lt y x (and_l (ltb y x) (leb x (end t y)) k) in
      let b : x ≤ end t y = leb→le x (end t y) (and_r (ltb y x) (leb x (end t y)) k) in
      holder_plain y (omega arith) (omega arith)

  -- every other axis leads from a node that is no attribute to such nodes alone
  pub stays_plain : (a : Axis) → principal a ≡ 1 → (x y : ℕ) → Plain t x → T (on t a x y) → is_attribute t y ≡ false
  unfolding on under principal
  stays_plain Itself u x y h k = let e : x ≡ y = eqb→eq x y k in rw (← e) h.1
  stays_plain Child u x y h k = is_false (is_attribute t y) (not_e (is_attribute t y) (and_r (under t x y) (not (is_attribute t y)) k))
  stays_plain Parent u x y h k =
      let p : 0 < x = ltb→lt 0 x (and_l (ltb 0 x) (eqb (parent_of t x) y) k) in
      let e : parent_of t x ≡ y = eqb→eq (parent_of t x) y (and_r (ltb 0 x) (eqb (parent_of t x) y) k) in
      let c : ChildRow t x = child t acc x p h.0 in
      rw (← e) (holder_plain (parent_of t x) (omega (arith, c.below, h.0)) (omega (arith, c.below, c.reached)))
  stays_plain Descendant u x y h k = is_false (is_attribute t y) (not_e (is_attribute t y) (and_r (inside t x y) (not (is_attribute t y)) k))
  stays_plain Ancestor u x y h k = inside_plain x y h.0 k
  stays_plain DescendantOrSelf u x y h k = or_e (eqb x y) (inside t x y && not (is_attribute t y)) k
      (λ m. let e : x ≡ y = eqb→eq x y m in rw (← e) h.1)
      (λ m. is_false (is_attribute t y) (not_e (is_attribute t y) (and_r (inside t x y) (not (is_attribute t y)) m)))
  stays_plain AncestorOrSelf u x y h k = or_e (eqb x y) (inside t y x) k
      (λ m. let e : x ≡ y = eqb→eq x y m in rw (← e) h.1)
      (λ m. inside_plain x y h.0 m)
  stays_plain Following u x y h k = is_false (is_attribute t y) (not_e (is_attribute t y) (and_r (after t x y) (not (is_attribute t y)) k))
  stays_plain Preceding u x y h k = is_false (is_attribute t y) (not_e (is_attribute t y) (and_r (after t y x) (not (is_attribute t y)) k))
  stays_plain FollowingSibling u x y h k = let n : T (not (is_attribute t y)) = search (and_l, and_r) in is_false (is_attribute t y) (not_e (is_attribute t y) n)
  stays_plain PrecedingSibling u x y h k = let n : T (not (is_attribute t y)) = search (and_l, and_r) in is_false (is_attribute t y) (not_e (is_attribute t y) n)
  stays_plain Attribute u x y h k = absurd (omega arith)

  -- a walk from nodes that are no attributes, without a step on the attribute axis, meets none, whatever its predicates count
  pub walk_stays_plain : (edition : ℕ) (literals : List Float) (s : Tree) → of_attributes s ≡ false → (set : List ℕ) → ((x : ℕ) → T (has set x) → Plain t x)
      → (y : ℕ) → T (has (walk edition t literals s set) y) → Plain t y
  unfolding walk union some_step
  walk_stays_plain edition literals none u set plain y h = plain y h
  walk_stays_plain edition literals (node op a b c d) u set plain y h =
      let w : List ℕ = walk edition t literals a set in
      let step : ℕ → List ℕ = λ x. filtered edition t literals b (candidates edition t (axis_of c) (test_of d) x) in
      let r = has_keep_to (λ y. some (λ x. has (step x) y) w) (up_to (rows t)) y h in
      let q = some_to (λ x. has (step x) y) w r.0 in
      let x : ℕ = q.0 in
      let low : y < rows t = has_up_to_to (rows t) y r.1 in
      let m : T (has (candidates edition t (axis_of c) (test_of d) x) y) = filtered_among edition t literals b (candidates edition t (axis_of c) (test_of d) x) y q.1 in
      let o : T (placed t (axis_of c) x y) = and_l (placed t (axis_of c) x y) (passes edition t (principal (axis_of c)) (test_of d) y) (rw (candidate_is edition t (axis_of c) x (test_of d) y) at m) in (
        low,
        stays_plain (axis_of c) (usual_step b c (or_none_r (of_attributes a) (is_of_attributes b c) u)) x y
            (walk_stays_plain edition literals a (or_none_l (of_attributes a) (is_of_attributes b c) u) set plain x q.2) (rw (placed_on t (axis_of c) x y low) at o),
      )

  -- ---- where attributes stand

  -- the rows from an element to one of its attributes are its attributes
  attributes_run : (x y z : ℕ) → y < rows t → T (on t Attribute x y) → x < z → z ≤ y → T (on t Attribute x z)
  attributes_run x zero z l h p q = absurd (omega arith)
  attributes_run x (suc y) z l h p q = elim (eq_or_ne z (suc y)) [
    | inl e ↦ rw e h
    | inr e ↦ elim (among_row t y (among t (rows t) (whole t acc) (suc y) l (attribute_parts t x (suc y) h).2)) [
      | inl m ↦ absurd (omega (arith, e, m.1, (attribute_parts t x (suc y) h).1))
      | inr m ↦ attributes_run x y z (omega arith) (attribute_of t x y (inner t (rows t) (whole t acc) y 4 (omega arith) (eqb→eq (kind t y) 5 m.0)) (sym m.1 ∙ (attribute_parts t x (suc y) h).1) m.0) p (omega (arith, e))
    ]
  ]

  -- so an attribute's place is how far it stands from its element
  pub attribute_place : (x y : ℕ) → y < rows t → T (on t Attribute x y) → place t Attribute x y ≡ y - x
  unfolding place axis_nodes is_reverse ordered
  attribute_place x y l h =
      let n : ℕ = rows t in
      let p : ℕ → Bool = on t Attribute x in
      let front : List ℕ = take y (up_to n) in
      let long : length front ≡ y = length-take y (up_to n) ∙ rw (length_up_to n) (omega arith) in
      let at : (i : ℕ) → i < y → get_or front i 0 ≡ i = λ i k. get_or-take y (up_to n) i 0 k ∙ sym (up_to_at n i (omega arith)) in
      let below : x < y = omega (arith, (attribute_parts t x y h).1, (child t acc y (attribute_parts t x y h).0 l).below) in
      let kept : keep p front ≡ slice (x + 1) y front =
      keep_slice p front (x + 1) y
      (λ i k m. rw (at i (omega arith)) (is_false (p i) (λ o. absurd (omega (arith, (attribute_parts t x i o).1, (child t acc i (attribute_parts t x i o).0 (omega arith)).below)))))
      (λ i k m. absurd (omega arith))
      ∙ keep_each p (slice (x + 1) y front) (λ i k.
      let j = rw (length-slice (x + 1) y front (omega arith)) at k in
      rw (get_or-drop (x + 1) (take y front) i 0, get_or-take y front (x + 1 + i) 0 (omega arith), at (x + 1 + i) (omega arith)) (is_true (p (x + 1 + i)) (attributes_run x y (x + 1 + i) l h (omega arith) (omega arith)))) in
      let own : get_or (up_to n) y 0 ≡ y = sym (up_to_at n y l) in
      let counted : place_from 1 (keep p (up_to n)) (get_or (up_to n) y 0) ≡ 1 + length (keep p front) = place_kept false p (up_to n) (order_monotone false n) 1 y (rw (length_up_to n) l) (rw own (is_true (p y) h)) in
      rw own at counted ∙ rw (kept, length-slice (x + 1) y front (omega arith)) (omega arith)

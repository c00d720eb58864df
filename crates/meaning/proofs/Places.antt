-- Laws of the nodes of an axis and of their places (document 02, W-203): a node's place is positive exactly if the node is on the axis,
-- the i-th node of an axis has the place i, and with test node() the position that a step's first predicate sees is the place.
-- Assumes nothing.
use Prim.Native.Nat.{ℕ, ◌+◌, ◌<◌, ◌≤◌}
use mathlib.Core.Path.{◌≡◌, refl, ◌∙◌}
use mathlib.Core.Bool.{Bool, true, false, ◌&&◌, cond}
use mathlib.Core.List.{List}
use lib.ListN.{length, get_or, take}
use lib.Dec.{T, leb, ltb, ltb→lt}
use lib.Ieee.{Float}
use native.Mathlib.Omega.{arith}
use borrow.Author.Tests.{ltb-true, ltb-false}
use Rattle.meaning.specs.Lists.{keep, has, place_from}
use Rattle.meaning.specs.Table.{rows, most_rows, accepted}
use Rattle.meaning.specs.Axis.{axis_of, last_axis, on, is_reverse, ordered, axis_nodes, place, principal, passes, candidates}
use Rattle.meaning.specs.declared.Axis.{Axis}
use Rattle.meaning.specs.declared.Test.{Test}
use Rattle.meaning.specs.declared.Test.TheVariants.{AnyNode}
use Rattle.meaning.specs.declared.Op.{Op}
use Rattle.meaning.specs.Tree.{Tree, none, node}
use Rattle.meaning.specs.Meaning.{float, holds, value, filtered}
use Rattle.meaning.specs.Answers.{askable, axis_place}
use Rattle.meaning.proofs.Bools.{and_l, and_r, is_true, truly}
use Rattle.meaning.proofs.Lists.{Monotone, has_keep, has_order_from, keep_all, keep_monotone, length_ordered, order_back, order_monotone, place_some, place_kept, place_entry, keep_at_places}
use Rattle.meaning.proofs.Tables.{few_rows}
use Rattle.meaning.proofs.Filters.{Tallied}

-- has y a place on the axis of x?
abbrev pub placed : List ℕ → Axis → ℕ → ℕ → Bool
placed t a x y = ltb 0 (place t a x y)

module _ (t : List ℕ) (a : Axis) (x : ℕ) where
  -- the nodes of an axis are strictly monotone along it
  pub axis_monotone : Monotone (is_reverse a) (axis_nodes t a x)
  unfolding axis_nodes
  axis_monotone = keep_monotone (is_reverse a) (on t a x) (ordered (is_reverse a) (rows t)) (order_monotone (is_reverse a) (rows t))

  -- the nodes of an axis are those that have a place on it
  pub placed_has : (y : ℕ) → placed t a x y ≡ has (axis_nodes t a x) y
  unfolding place
  placed_has y = place_some 1 (axis_nodes t a x) y (omega arith)

  -- a node's place is positive exactly if the node is on the axis
  pub placed_on : (y : ℕ) → y < rows t → placed t a x y ≡ on t a x y
  unfolding axis_nodes
  placed_on y h =
      placed_has y
      ∙ has_keep (on t a x) (ordered (is_reverse a) (rows t)) y
      ∙ rw (is_true (has (ordered (is_reverse a) (rows t)) y) (has_order_from (is_reverse a) (rows t) y h))

  -- the axis node at i, counted from 0, has the place i, counted from 1
  pub place_of_node : (i : ℕ) → i < length (axis_nodes t a x) → place t a x (get_or (axis_nodes t a x) i 0) ≡ 1 + i
  unfolding place
  place_of_node i h = place_entry (is_reverse a) (axis_nodes t a x) axis_monotone 1 i h

  -- a node that is not on the axis has place 0
  pub place_absent : (y : ℕ) → y < rows t → on t a x y ≡ false → place t a x y ≡ 0
  place_absent y h e = omega (arith, ltb-false 0 (place t a x y) (placed_on y h ∙ e))

  -- one that is has one more than the axis nodes before its own index in the axis's order, stated over what code has read and counted
  pub place_counted : (n : ℕ) (r : Bool) (y own i m : ℕ) → n ≡ rows t → r ≡ is_reverse a → y < rows t → on t a x y ≡ true → own ≡ get_or (ordered r n) y 0 → own < n
      → i ≡ own → Tallied (on t a x) (ordered r n) m i → m + 1 ≡ place t a x y
  unfolding place axis_nodes Tallied
  place_counted n r y own i m is-n is-r h e is-own l at_own tallied =
      let o : List ℕ = ordered r n in
      let own_row : get_or o i 0 ≡ y = rw (at_own, is-own) (order_back r n y (omega arith)) in
      let within : i < length o = rw (length_ordered r n) (omega arith) in
      let counted : place_from 1 (keep (on t a x) o) (get_or o i 0) ≡ 1 + length (keep (on t a x) (take i o)) =
      place_kept r (on t a x) o (order_monotone r n) 1 i within (rw own_row e) in
      rw (← is-n, ← is-r, ← own_row) (omega (arith, counted, tallied))

-- ---- candidates, in an edition

module _ (edition : ℕ) (t : List ℕ) (a : Axis) (x : ℕ) where
  -- a candidate has a place on the axis and passes the test
  pub candidate_is : (u : Test) (y : ℕ) → has (candidates edition t a u x) y ≡ (placed t a x y && passes edition t (principal a) u y)
  unfolding candidates
  candidate_is u y = rw (placed_has t a x y) (has_keep (passes edition t (principal a) u) (axis_nodes t a x) y)

  -- candidates are strictly monotone along the axis
  pub candidates_monotone : (u : Test) → Monotone (is_reverse a) (candidates edition t a u x)
  unfolding candidates
  candidates_monotone u = keep_monotone (is_reverse a) (passes edition t (principal a) u) (axis_nodes t a x) (axis_monotone t a x)

  -- with test node() they are the nodes of the axis
  pub any_candidates : candidates edition t a AnyNode x ≡ axis_nodes t a x
  unfolding candidates passes
  any_candidates = keep_all (axis_nodes t a x)

  -- and what the first predicate of a step sees as a node's position is its place
  pub position_is_place : (literals : List Float) (op : Op) (b : Tree) (c d : ℕ)
      → filtered edition t literals (node op none b c d) (candidates edition t a AnyNode x)
      ≡ keep (λ y. holds (value edition t literals b (record { node = y; position = float (place t a x y); size = float (length (axis_nodes t a x)) })) (float (place t a x y))) (axis_nodes t a x)
  unfolding filtered place
  position_is_place literals op b c d = rw any_candidates (keep_at_places (is_reverse a) _ (axis_nodes t a x) (axis_monotone t a x) 1)

-- where a place may be asked both are rows, and the rows are not too many
pub asked_rows : (t : List ℕ) (n x y : ℕ) → askable t n x y ≡ true → (rows t ≤ most_rows) × (x < rows t) × (y < rows t)
unfolding askable
asked_rows t n x y e =
    let all : T (accepted t && leb n last_axis && ltb x (rows t) && ltb y (rows t)) = truly e in
    let acc : T (accepted t) = search (and_l, and_r) in
    let in-x : T (ltb x (rows t)) = search (and_l, and_r) in
    let in-y : T (ltb y (rows t)) = search (and_l, and_r) in
    (few_rows t (is_true (accepted t) acc), ltb→lt x (rows t) in-x, ltb→lt y (rows t) in-y)

-- what `axis_place` answers is positive exactly if the table is accepted, the number is an axis's, both are rows and y is on the axis
pub axis_place_exactly : (t : List ℕ) (n x y : ℕ) → ltb 0 (axis_place t n x y) ≡ (accepted t && leb n last_axis && ltb x (rows t) && ltb y (rows t) && on t (axis_of n) x y)
unfolding axis_place askable
axis_place_exactly t n x y = by (accepted t && leb n last_axis && ltb x (rows t)) (ltb y (rows t)) refl
  where
    by : (b c : Bool) → ltb y (rows t) ≡ c → ltb 0 (cond (b && c) (place t (axis_of n) x y) 0) ≡ (b && c && on t (axis_of n) x y)
    by true true e = placed_on t (axis_of n) x y (ltb-true y (rows t) e)
    by true false e = refl
    by false c e = refl

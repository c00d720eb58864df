-- Laws of attributes' names: none is seen at row 1, a sound row passes on what is seen, and an attribute's name is there already exactly if
-- its own element stands at it. An element that is seen is some earlier attribute's; no earlier attribute has a later element than the
-- row's own, so an earlier one of the name on that element is the last of the name.
-- Assumes nothing.
use Prim.Native.Nat.{ℕ, ◌+◌, ◌<◌, ◌≤◌}
use mathlib.Core.Path.{◌≡◌, sym, ◌∙◌}
use mathlib.Core.Logic.{inl, inr}
use mathlib.Core.Bool.{true, false, ◌&&◌}
use mathlib.Core.List.{List}
use lib.ListN.{length, get_or, set, replicate}
use lib.Seq.{get_or-set_same, get_or-set_other}
use lib.Dec.{T, eqb, eqb→eq}
use native.Mathlib.Omega.{arith}
use Rattle.meaning.specs.Lists.{up_to, some}
use Rattle.meaning.specs.Table.{kind, name, parent_of, is_attribute, good_root, good_parent, among_attributes, same_attribute, attribute_again}
use Rattle.meaning.proofs.Bools.{and_l, and_r, and_i, truly, untrue, same, eq→eqb, eq_or_ne}
use Rattle.meaning.proofs.Lists.{one_value, some_to, some_from, has_up_to_to, has_up_to_from}
use Rattle.meaning.proofs.Tables.{Sound, parent_child}
use Rattle.meaning.proofs.DataModel.{inner, among, among_element, among_ascend}
use Rattle.table_check.specs.Next.{Behind}
use Rattle.table_check.specs.Names.{Seen}
use Rattle.table_check.proofs.Stops.{root_plain}

module _ (t : List ℕ) where
  -- at row 1 none is seen: the root is no attribute
  pub seen_start : (k : ℕ) → good_root t ≡ true → Seen t 1 (replicate k 0)
  seen_start k root = record {
    some = λ n p. absurd (omega (arith, one_value {A = ℕ} k n 0));
    last = λ j l a. let z : j ≡ 0 = omega arith in absurd (untrue (root_plain t (truly root)) (rw z at a));
  }

  module _ (i : ℕ) (seen : List ℕ) (s : Seen t i seen) where
    -- a sound attribute's element is the last one with its name
    pub seen_more : 0 < i → Sound t (i + 1) → T (is_attribute t i) → name t i < length seen → Seen t (i + 1) (set seen (name t i) (parent_of t i))
    seen_more p sound a fits =
        let n : ℕ = name t i in
        let q : ℕ = parent_of t i in
        let here : get_or (set seen n q) n 0 ≡ q = get_or-set_same seen n q 0 fits in
        record {
          some = λ m d. elim (eq_or_ne m n) [
            | inl e ↦ (i, omega arith, a, sym e, rw (e, here))
            | inr e ↦
                let w = s.some m (rw (get_or-set_other seen n m q 0 e) at d) in
                (w.0, omega (arith, w.1), w.2, w.3, rw (get_or-set_other seen n m q 0 e) w.4)
          ];
          last = λ j k b. elim (eq_or_ne (name t j) n) [
            | inl e ↦ rw (e, here) (elim (eq_or_ne j i) [
              | inl z ↦ rw z (omega arith)
              | inr z ↦ among_ascend t (i + 1) sound i p (omega arith) (among t (i + 1) sound i (omega arith) a) j (omega (arith, z)) b
            ])
            | inr e ↦ rw (get_or-set_other seen n (name t j) q 0 e) (s.last j (elim (eq_or_ne j i) [
              | inl z ↦ absurd (e (rw z))
              | inr z ↦ omega (arith, z)
            ]) b)
          ];
        }

    -- any other row leaves what is seen
    pub seen_other : is_attribute t i ≡ false → Seen t (i + 1) seen
    seen_other plain = record {
      some = λ n d. let w = s.some n d in (w.0, omega (arith, w.1), w.2, w.3, w.4);
      last = λ j k b. elim (eq_or_ne j i) [
        | inl z ↦ absurd (untrue plain (rw z at b))
        | inr z ↦ s.last j (omega (arith, z)) b
      ];
    }

    -- an attribute is there again exactly if its element is the last one with its name
    pub again_seen : Behind t i → good_parent t i ≡ true → T (is_attribute t i) → T (among_attributes t i) → attribute_again t i ≡ eqb (get_or seen (name t i) 0) (parent_of t i)
    unfolding attribute_again same_attribute
    again_seen b g a h =
        let n : ℕ = name t i in
        let q : ℕ = parent_of t i in
        let below : q < i = (parent_child t i (truly g)).below in
        let some-row : 0 < q = inner t i b.sound q 0 below (eqb→eq (kind t q) 1 (among_element t i b.sound i b.inner (omega arith) h)) in
        same (attribute_again t i) (eqb (get_or seen n 0) q)
        (λ r.
        let w = some_to (same_attribute t i) (up_to i) (and_r (is_attribute t i) (some (same_attribute t i) (up_to i)) r) in
        let j : ℕ = w.0 in
        let v : T (is_attribute t j && eqb (parent_of t j) q && eqb (name t j) n) = w.1 in
        let c : T (is_attribute t j) = search (and_l, and_r) in
        let d : T (eqb (parent_of t j) q) = search (and_l, and_r) in
        let e : T (eqb (name t j) n) = search (and_l, and_r) in
        let low : parent_of t j ≤ get_or seen n 0 = rw (eqb→eq (name t j) n e) at (s.last j (has_up_to_to i j w.2) c) in
        let k = s.some n (omega (arith, eqb→eq (parent_of t j) q d)) in
        let high : parent_of t k.0 ≤ q = among_ascend t i b.sound i b.inner (omega arith) h k.0 k.1 k.2 in
        eq→eqb (get_or seen n 0) q (omega (arith, k.4, eqb→eq (parent_of t j) q d)))
        (λ r.
        let e : get_or seen n 0 ≡ q = eqb→eq (get_or seen n 0) q r in
        let k = s.some n (omega arith) in
        let j : ℕ = k.0 in
        let v : T (is_attribute t j && eqb (parent_of t j) q && eqb (name t j) n) =
        and_i (is_attribute t j && eqb (parent_of t j) q) (eqb (name t j) n) (and_i (is_attribute t j) (eqb (parent_of t j) q) k.2 (eq→eqb (parent_of t j) q (k.4 ∙ e))) (eq→eqb (name t j) n k.3) in
        and_i (is_attribute t i) (some (same_attribute t i) (up_to i)) a (some_from (same_attribute t i) (up_to i) j v (has_up_to_from i j k.1)))

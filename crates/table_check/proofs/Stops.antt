-- Laws of where a pass with room for some names stops: a row that is passed is sound and has room for its name; where it stops at a broken
-- row, that is the lowest; with room for all names it stops nowhere else.
-- Assumes nothing.
use Prim.Native.Nat.{ℕ, ◌<◌, ◌≤◌}
use mathlib.Core.Path.{◌≡◌, refl, sym, ◌∙◌}
use mathlib.Core.Logic.{inl, inr}
use mathlib.Core.Bool.{Bool, true, false, ◌&&◌, ◌||◌, not}
use mathlib.Core.List.{List}
use lib.Dec.{T, leb, leb→le, le→leb, eqb→eq}
use native.Mathlib.Omega.{arith}
use Rattle.meaning.specs.Lists.{lowest}
use Rattle.meaning.specs.Table.{kind, name, rows, is_attribute, good_root, good_name, good_row, broken}
use Rattle.meaning.proofs.Bools.{and_l, and_r, and_i, or_e, or_none_l, or_none_r, truly, untrue, is_true, is_false, not_e, not_false, lt_or_ge}
use Rattle.meaning.proofs.Lists.{lowest_is, lowest_le, lowest_below, lowest_at}
use Rattle.meaning.proofs.Tables.{root_kind}
use Rattle.meaning.proofs.Checks.{Passed, passed_start, passed_more}
use Rattle.table_check.specs.Next.{well_placed}
use Rattle.table_check.specs.Names.{unlisted, stopped}
use Rattle.table_check.proofs.Next.{row_broken, good_placed}

module _ (t : List ℕ) where
  -- a sound root is no attribute
  pub root_plain : T (good_root t) → is_attribute t 0 ≡ false
  root_plain g = rw (root_kind t g)

  -- an attribute's name is at most 65,535
  name_fits : (i : ℕ) → T (well_placed t i) → T (is_attribute t i) → name t i < 65536
  unfolding good_name
  name_fits i h a =
      let g : T (good_name (kind t i) (name t i)) = search (and_l, and_r) in
      let b : T (leb 1 (name t i) && leb (name t i) 65535) = rw (eqb→eq (kind t i) 5 a) at g in
      omega (arith, leb→le (name t i) 65535 (and_r (leb 1 (name t i)) (leb (name t i) 65535) b))

  -- so with room for all names it stops at broken rows alone
  pub large_broken : (i : ℕ) → T (unlisted t 65536 i) → T (broken t i)
  unfolding unlisted broken
  large_broken i u =
      let a : T (is_attribute t i) = and_l (is_attribute t i) (leb 65536 (name t i)) u in
      let l : 65536 ≤ name t i = leb→le 65536 (name t i) (and_r (is_attribute t i) (leb 65536 (name t i)) u) in
      elim (lt_or_ge 0 i) [
        | inl p ↦ let f : good_row t i ≡ false = is_false (good_row t i) (λ g. absurd (omega (arith, name_fits i (good_placed t i g) a))) in rw (row_broken t i p, f) tt
        | inr z ↦
            let e : i ≡ 0 = omega arith in
            let f : good_root t ≡ false = is_false (good_root t) (λ g. untrue (root_plain g) (rw e at a)) in
            rw (e, f) tt
      ]

  module _ (k : ℕ) where
    -- behind the root the pass goes on exactly if the row is good and has room for its name
    pub goes_on : (i : ℕ) → 0 < i → not (stopped t k i) ≡ (good_row t i && not (unlisted t k i))
    unfolding stopped
    goes_on i p = rw (row_broken t i p) (by (good_row t i))
      where
        by : (g : Bool) → not (not g || unlisted t k i) ≡ (g && not (unlisted t k i))
        by true = refl
        by false = refl

    pub stops_here : (i : ℕ) → not (stopped t k i) ≡ false → stopped t k i ≡ true
    stops_here i e = is_true (stopped t k i) (not_false (stopped t k i) e)

    pub goes_past : (i : ℕ) → not (stopped t k i) ≡ true → stopped t k i ≡ false
    goes_past i e = is_false (stopped t k i) (not_e (stopped t k i) (truly e))

    -- a row that is passed is good, and has room for its name
    pub passed_good : (i : ℕ) → 0 < i → stopped t k i ≡ false → good_row t i ≡ true
    unfolding stopped
    passed_good i p e = is_true (good_row t i) (not_false (good_row t i) (sym (row_broken t i p) ∙ or_none_l (broken t i) (unlisted t k i) e))

    pub listed : (i : ℕ) → unlisted t k i ≡ false → T (is_attribute t i) → name t i < k
    unfolding unlisted
    listed i e a = elim (lt_or_ge (name t i) k) [
      | inl l ↦ l
      | inr l ↦ absurd (untrue e (and_i (is_attribute t i) (leb k (name t i)) a (le→leb k (name t i) l)))
    ]

    -- a row that is no attribute asks for none
    pub plain_listed : (i : ℕ) → is_attribute t i ≡ false → unlisted t k i ≡ false
    unfolding unlisted
    plain_listed i e = rw e

    pub passed_listed : (i : ℕ) → stopped t k i ≡ false → T (is_attribute t i) → name t i < k
    unfolding stopped
    passed_listed i e = listed i (or_none_r (broken t i) (unlisted t k i) e)

    -- a sound root is passed, and rows that are passed are sound
    pub passed_root : good_root t ≡ true → Passed (stopped t k) 1
    unfolding stopped unlisted broken
    passed_root root = passed_more (stopped t k) 0 (passed_start (stopped t k)) (rw (root, root_plain (truly root)))

    pub passed_sound : (i : ℕ) → Passed (stopped t k) i → Passed (broken t) i
    unfolding Passed stopped
    passed_sound i h j l = or_none_l (broken t j) (unlisted t k j) (h j l)

    -- where the pass stops, if at all, at a broken row, that is the lowest
    pub stops_at_broken : (r : ℕ) → r ≡ lowest (stopped t k) (rows t) → (r < rows t → T (unlisted t k r) → T (broken t r)) → r ≡ lowest (broken t) (rows t)
    unfolding stopped
    stops_at_broken r e h =
        let m : ℕ = lowest (stopped t k) (rows t) in
        let at : m < rows t → broken t m ≡ true = λ l. is_true (broken t m) (or_e (broken t m) (unlisted t k m) (truly (lowest_at (stopped t k) (rows t) l)) (λ b. b) (λ u. rw (← e) (h (rw e l) (rw e u)))) in
        e ∙ sym (lowest_is (broken t) (rows t) m (lowest_le (stopped t k) (rows t)) (λ j l. or_none_l (broken t j) (unlisted t k j) (lowest_below (stopped t k) (rows t) j l)) at)

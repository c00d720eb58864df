-- Laws of the subtree view: a list that is ascending rises, so halving finds where its part begins and ends, and the part
-- holds exactly the entries from v to v + size(v).
-- Assumes nothing.
use Prim.Native.Nat.{ℕ, zero, suc, ◌+◌, ◌-◌, ◌*◌, ◌<◌, ◌≤◌}
use mathlib.Core.Path.{◌≡◌, refl, sym, ap, ◌∙◌}
use mathlib.Core.Logic.{inl, inr, ⊎_elim}
use mathlib.Core.Bool.{Bool, true, false, ◌&&◌, ◌||◌, not, cond, and-false}
use mathlib.Core.List.{List, [], append-nil}
use lib.ListN.{length, get_or, take, drop, length-drop, take-append-drop}
use lib.Seq.{get_or-take, get_or-drop, drop-drop, length-take-le}
use lib.Dec.{T, leb, ltb, eqb, ltb→lt}
use denote.Ref.{Bor}
use native.Mathlib.Omega.{arith}
use native.Mathlib.Nat.{eq-or-lt_of_le, add-sub_cancel_left}
use native.Mathlib.Numerals.{add-one}
use borrow.Author.Tests.{le-leb, lt-leb, lt-ltb, le-ltb, leb-true, leb-false, ltb-true, ltb-false, ne_eqb, not-true, not-false}
use Rattle.meaning.specs.Lists.{up_to, some, keep, lowest}
use Rattle.meaning.specs.Table.{accepted, rows, end}
use Rattle.meaning.specs.View.{entry_fits, ascending, viewable, begins, ends, viewed, part_from, part_of}
use Rattle.meaning.specs.Promises.{ShowsPart}
use Rattle.meaning.specs.declared.Part.{Part}
use Rattle.meaning.proofs.Bools.{and_l, and_r, truly, is_true, lt_or_ge}
use Rattle.meaning.proofs.Lists.{Before, Monotone, Rising, some_from, has_up_to_from, none_below, below_none, keep_append, keep_none, keep_each, lowest_le, lowest_is, lowest_below, lowest_at}
use Rattle.meaning.proofs.Checks.{Passed}

-- ---- lists that rise

module _ (t l : List ℕ) where
  -- a list of which each entry fits is ascending
  pub ascending_whole : (n : ℕ) → length l ≤ n → Passed (λ i. not (entry_fits t l i)) n → ascending t l ≡ true
  unfolding ascending Passed
  ascending_whole n h f = rw (none_below (λ i. not (entry_fits t l i)) (length l) (λ i k. f i (omega arith)))

  -- and one with an entry that does not is not
  pub ascending_broken : (i : ℕ) → i < length l → entry_fits t l i ≡ false → ascending t l ≡ false
  unfolding ascending
  ascending_broken i h e = rw (is_true (some (λ i. not (entry_fits t l i)) (up_to (length l))) (some_from (λ i. not (entry_fits t l i)) (up_to (length l)) i (rw e tt) (has_up_to_from (length l) i h)))

  module _ (a : ascending t l ≡ true) where
    fits : (i : ℕ) → i < length l → T (entry_fits t l i)
    unfolding ascending
    fits i h = truly (not-false (entry_fits t l i) (below_none (λ i. not (entry_fits t l i)) (length l) (not-true (some (λ i. not (entry_fits t l i)) (up_to (length l))) a) i h))

    above_before : (j : ℕ) → suc j < length l → get_or l j 0 < get_or l (suc j) 0
    unfolding entry_fits
    above_before j h =
        let f : T (entry_fits t l (suc j)) = fits (suc j) h in
        let e : suc j - 1 ≡ j = omega arith in
        let b : T (eqb (suc j) 0 || ltb (get_or l (suc j - 1) 0) (get_or l (suc j) 0)) = search and_l in
        ltb→lt (get_or l j 0) (get_or l (suc j) 0) (rw (ne_eqb (suc j) 0 (λ e. omega arith), e) at b)

    -- an ascending list rises
    pub ascending_rises : Rising l
    unfolding Monotone Before
    ascending_rises i zero k h = absurd (omega arith)
    ascending_rises i (suc j) k h = elim (eq-or-lt_of_le {n = i} {m = j} (omega arith)) [
      | inl e ↦ rw e (above_before j h)
      | inr m ↦ omega (arith, ascending_rises i j m (omega arith), above_before j h)
    ]

-- ---- halving

-- the lowest index with an entry of v or more lies from low to high
pub record Bracket (l : List ℕ) (v low high : ℕ) : Type 0 where
  pub order : low ≤ high
  pub within : high ≤ length l
  pub below : (j : ℕ) → j < low → get_or l j 0 < v
  pub above : high < length l → v ≤ get_or l high 0

module _ {l : List ℕ} {v : ℕ} where
  -- at first it lies anywhere in the list
  pub bracket_start : Bracket l v 0 (length l)
  bracket_start = record {
    order = omega arith;
    within = omega arith;
    below = λ j h. absurd (omega arith);
    above = λ h. absurd (omega arith);
  }

  -- the entry in the middle is below v: so are all before it
  pub bracket_up : {low high : ℕ} (m : ℕ) → Rising l → Bracket l v low high → m < high → get_or l m 0 < v → Bracket l v (m + 1) high
  unfolding Monotone Before
  bracket_up m up b h k = record {
    order = omega arith;
    within = b.within;
    below = λ j i. elim (eq-or-lt_of_le {n = j} {m = m} (omega arith)) [
      | inl e ↦ rw e k
      | inr n ↦ omega (arith, up j m n (omega (arith, b.within)))
    ];
    above = b.above;
  }

  -- the entry in the middle is v or more
  pub bracket_down : {low high : ℕ} (m : ℕ) → Bracket l v low high → low ≤ m → m < high → v ≤ get_or l m 0 → Bracket l v low m
  bracket_down m b h i k = record { order = h; within = omega (arith, b.within); below = b.below; above = λ n. k }

  -- where the two meet it is found
  pub bracket_met : {low high : ℕ} → Bracket l v low high → high ≤ low → low ≡ begins l v
  unfolding begins
  bracket_met {low} {high} b h =
      let e : low ≡ high = omega (arith, b.order) in
      sym (lowest_is (λ i. leb v (get_or l i 0)) (length l) low (omega (arith, b.within))
      (λ j k. lt-leb v (get_or l j 0) (b.below j k))
      (λ k. le-leb v (get_or l low 0) (rw e (b.above (omega arith)))))

-- ---- the part

-- the end is found as the beginning is, one above the last row
ends_found : (t l : List ℕ) (v : ℕ) → begins l (end t v + 1) ≡ ends t l v
unfolding begins ends
ends_found t l v = simp add-one

-- the part begins and ends in the list, in this order
pub ends_within : (t l : List ℕ) (v : ℕ) → ends t l v ≤ length l
unfolding ends
ends_within t l v = lowest_le (λ i. ltb (end t v) (get_or l i 0)) (length l)

pub begins_first : (t l : List ℕ) (v : ℕ) → begins l v ≤ ends t l v
unfolding begins ends
begins_first t l v = ⊎_elim
    (λ h.
    let b : leb v (get_or l (ends t l v) 0) ≡ false = lowest_below (λ i. leb v (get_or l i 0)) (length l) (ends t l v) h in
    let e : ltb (end t v) (get_or l (ends t l v) 0) ≡ true = lowest_at (λ i. ltb (end t v) (get_or l i 0)) (length l) (omega (arith, lowest_le (λ i. leb v (get_or l i 0)) (length l))) in
    absurd (omega (arith, leb-false v (get_or l (ends t l v) 0) b, ltb-true (end t v) (get_or l (ends t l v) 0) e)))
    (λ h. h)
    (lt_or_ge (ends t l v) (begins l v))

-- of a list that rises the part is what lies from v to m
module _ (l : List ℕ) (up : Rising l) (v m b e : ℕ) (order : b ≤ e) (within : e ≤ length l)
    (at-begin : b ≡ lowest (λ i. leb v (get_or l i 0)) (length l)) (at-end : e ≡ lowest (λ i. ltb m (get_or l i 0)) (length l)) where
  abbrev in_range : ℕ → Bool
  in_range y = leb v y && leb y m

  before_begin : (i : ℕ) → i < b → get_or l i 0 < v
  before_begin i h = leb-false v (get_or l i 0) (lowest_below (λ i. leb v (get_or l i 0)) (length l) i (omega arith))

  from_begin : (i : ℕ) → b ≤ i → i < length l → v ≤ get_or l i 0
  unfolding Monotone Before
  from_begin i h k =
      let f : v ≤ get_or l b 0 = leb-true v (get_or l b 0) (rw at-begin (lowest_at (λ i. leb v (get_or l i 0)) (length l) (omega arith))) in
      elim (eq-or-lt_of_le {n = b} {m = i} h) [
        | inl s ↦ rw s at f
        | inr n ↦ omega (arith, up b i n k)
      ]

  before_end : (i : ℕ) → i < e → get_or l i 0 ≤ m
  before_end i h = ltb-false m (get_or l i 0) (lowest_below (λ i. ltb m (get_or l i 0)) (length l) i (omega arith))

  from_end : (i : ℕ) → e ≤ i → i < length l → m < get_or l i 0
  unfolding Monotone Before
  from_end i h k =
      let f : m < get_or l e 0 = ltb-true m (get_or l e 0) (rw at-end (lowest_at (λ i. ltb m (get_or l i 0)) (length l) (omega arith))) in
      elim (eq-or-lt_of_le {n = e} {m = i} h) [
        | inl s ↦ rw s at f
        | inr n ↦ omega (arith, up e i n k)
      ]

  -- what stands before the part, in it and after it
  kept_before : keep in_range (take b l) ≡ []
  kept_before = keep_none in_range (take b l) (λ i h.
      let k : i < b = omega (arith, length-take-le b l (omega arith)) in
      rw (get_or-take b l i 0 k, lt-leb v (get_or l i 0) (before_begin i k)))

  kept_part : keep in_range (take (e - b) (drop b l)) ≡ take (e - b) (drop b l)
  kept_part = keep_each in_range (take (e - b) (drop b l)) (λ i h.
      let k : i < e - b = omega (arith, length-take-le (e - b) (drop b l) (rw (length-drop b l) (omega arith))) in
      rw (get_or-take (e - b) (drop b l) i 0 k, get_or-drop b l i 0, le-leb v (get_or l (b + i) 0) (from_begin (b + i) (omega arith) (omega arith)), le-leb (get_or l (b + i) 0) m (before_end (b + i) (omega arith))))

  kept_after : keep in_range (drop e l) ≡ []
  kept_after = keep_none in_range (drop e l) (λ i h.
      let k : e + i < length l = omega (arith, length-drop e l) in
      rw (get_or-drop e l i 0, le-leb v (get_or l (e + i) 0) (from_begin (e + i) (omega arith) k), lt-leb (get_or l (e + i) 0) m (from_end (e + i) (omega arith) k)))

  range_kept : keep in_range l ≡ take (e - b) (drop b l)
  range_kept =
      let n : b + (e - b) ≡ e = omega arith in
      let p : List ℕ = take (e - b) (drop b l) in
      ap (keep in_range) (sym (take-append-drop b l))
      ∙ keep_append in_range (take b l) (drop b l)
      ∙ rw kept_before (ap (keep in_range) (sym (take-append-drop (e - b) (drop b l))))
      ∙ keep_append in_range p (drop (e - b) (drop b l))
      ∙ rw (kept_part, drop-drop (e - b) b l, n, kept_after) (append-nil p)

-- a list that may be viewed rises
pub viewable_rises : (t l : List ℕ) (v : ℕ) → viewable t l v ≡ true → Rising l
unfolding viewable
viewable_rises t l v h =
    let a : T (ascending t l) = search (and_l, and_r, truly) in
    ascending_rises t l (is_true (ascending t l) a)

-- and its node is a row
pub viewable_row : (t l : List ℕ) (v : ℕ) → viewable t l v ≡ true → v < rows t
unfolding viewable
viewable_row t l v h =
    let a : T (ltb v (rows t)) = search (and_l, and_r, truly) in
    ltb→lt v (rows t) a

-- the view shows exactly the entries from v to v + size(v)
pub view_kept : (t l : List ℕ) (v : ℕ) → viewable t l v ≡ true → viewed t l v ≡ keep (λ y. leb v y && leb y (end t v)) l
unfolding viewed begins ends
view_kept t l v h = rw h (sym (range_kept l (viewable_rises t l v h) v (end t v) (begins l v) (ends t l v) (begins_first t l v) (ends_within t l v) refl refl))

-- ---- its two ends as numbers, as they are computed

-- p cuts a part out of the list l, and begins at b if the part has an entry
pub record Cuts (l part : List ℕ) (b : ℕ) (p : Part) : Type 0 where
  pub within : p.begin + p.length ≤ length l
  pub entries : take p.length (drop p.begin l) ≡ part
  pub place : 0 < length part → p.begin ≡ b

module _ (t l : List ℕ) (v : ℕ) where
  -- viewable, check by check
  pub view_refused : accepted t ≡ false → viewable t l v ≡ false
  unfolding viewable
  view_refused h = rw h

  pub view_outside : (n : ℕ) → n ≡ rows t → ltb v n ≡ false → viewable t l v ≡ false
  unfolding viewable
  view_outside n e h = rw (← e, h, and-false (accepted t))

  pub view_allowed : (n : ℕ) → accepted t ≡ true → n ≡ rows t → ltb v n ≡ true → viewable t l v ≡ ascending t l
  unfolding viewable
  view_allowed n h e k = rw (h, ← e, k)

  -- a list that may not be viewed has no part
  pub part_refused : viewable t l v ≡ false → part_from 0 0 ≡ part_of t l v
  unfolding part_of
  part_refused h = rw h

  module _ (b e x : ℕ) (at-begin : b ≡ begins l v) (last : x ≡ end t v) (at-end : e ≡ begins l (x + 1)) where
    at_ends : e ≡ ends t l v
    at_ends = at-end ∙ rw last (ends_found t l v)

    -- no entry lies between the ends
    pub part_none : e ≤ b → part_from 0 0 ≡ part_of t l v
    unfolding part_of
    part_none h = rw (← at-begin, ← at_ends, le-ltb b e h, and-false (viewable t l v))

    -- some do
    pub part_some : viewable t l v ≡ true → b < e → part_from b (e - b) ≡ part_of t l v
    unfolding part_of
    part_some k h = rw (k, ← at-begin, ← at_ends, lt-ltb b e h)

  -- its two ends cut what is viewed out of the list
  pub part_cuts : (p : Part) → p ≡ part_of t l v → Cuts l (viewed t l v) (begins l v) p
  unfolding part_of viewed
  part_cuts p e = rw e (go (viewable t l v) (ltb (begins l v) (ends t l v)) refl)
    where
      go : (a b : Bool) → ltb (begins l v) (ends t l v) ≡ b
          → Cuts l (cond a (take (ends t l v - begins l v) (drop (begins l v) l)) []) (begins l v) (cond (a && b) (part_from (begins l v) (ends t l v - begins l v)) (part_from 0 0))
      go false b e = record { within = omega arith; entries = refl; place = λ h. absurd (omega arith) }
      go true true e = record { within = omega (arith, begins_first t l v, ends_within t l v); entries = refl; place = λ h. refl }
      go true false e =
          let z : ends t l v - begins l v ≡ 0 = omega (arith, ltb-false (begins l v) (ends t l v) e) in
          record { within = omega arith; entries = rw z; place = λ h. absurd (omega (arith, rw z at h)) }

-- the slice from one end to the other shows the part
pub part_shows : (t : List ℕ) (l r : Bor (List ℕ)) (v : ℕ) (p : Part) → p ≡ part_of t l.now v
    → r.now ≡ take (p.begin + p.length - p.begin) (drop p.begin l.now)
    → r.ref_ptr.0 ≡ l.ref_ptr.0 → r.ref_ptr.1 ≡ p.begin * 4 + l.ref_ptr.1 → ShowsPart t l v r
part_shows t l r v p e n b o =
    let k : Cuts l.now (viewed t l.now v) (begins l.now v) p = part_cuts t l.now v p e in
    let q : r.now ≡ viewed t l.now v = n ∙ ap (λ m. take m (drop p.begin l.now)) (add-sub_cancel_left p.begin p.length) ∙ k.entries in
    record { entries = q; block = λ h. b; offset = λ h. omega (arith, k.place (rw q at h)) }

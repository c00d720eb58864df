-- What a pass over the rows has gathered from the marked ones behind it, and which rows each pass reaches by it.
-- A gathered scalar is read as a test of a number (is it below the scalar, or above?), flags as a test of a row; so one
-- statement, `Gathered`, serves them all, and an axis is a window on the rows whose test the scalar answers.
-- Assumes nothing.
use Rattle.std.proofs.Common.{◌≡◌, refl, sym, ap, ◌∙◌, ◌⊎◌, inl, inr, ℕ, suc, ◌+◌, ◌-◌, ◌<◌, ◌≤◌, Bool, true, false, ◌&&◌, ◌||◌, not, List, length, get_or, arith, add-one, eqb, ltb, leb}
use Rattle.std.proofs.lemmas.List.{length-set, get_or-set_other, get_or-set_same}
use mathlib.Core.Bool.{false≢true, and-true, and-false, and_assoc, or-false, or_comm, and_comm}
use lib.ListN.{set}
use borrow.Author.Tests.{lt-ltb, le-ltb, ltb-true, ltb-false, ne_eqb}
use Rattle.meaning.specs.Lists.{up_to, some}
use Rattle.meaning.specs.Table.{rows, parent_of, end, is_attribute}
use Rattle.meaning.specs.Axis.{under, inside, after, on}
use Rattle.meaning.specs.declared.Axis.TheVariants.{FollowingSibling, Itself, PrecedingSibling}
use Rattle.meaning.proofs.Bools.{lt_or_ge, eq_or_ne, eqb_sym, truly, is_true}
use Rattle.meaning.proofs.Lists.{some_last, some_same, some_from, none_below, has_up_to_from}
use Rattle.meaning.proofs.Windows.{some_below, some_and, some_at, some_at_or, up_from, window_below, window_above, leb_ltb, after_is}
use Rattle.meaning.proofs.Marks.{Wrote, WroteDown, wrote_all, down_all, set_if}
use Rattle.reach.specs.declared.Asked.{Asked}
use Rattle.reach.specs.declared.Asked.TheVariants.{Plain}
use Rattle.reach.specs.Reach.{hit, Hits, Rooted, admitted, beyond}

-- ---- gathering

-- below B, v reads what those rows of l give by g at which `from` holds
unfoldable pub Gathered : ℕ → (ℕ → ℕ → Bool) → (ℕ → Bool) → List ℕ → (ℕ → Bool) → Type 0
Gathered B g from l v = (y : ℕ) → y < B → v y ≡ some (λ x. from x && g x y) l

module _ (B : ℕ) (g : ℕ → ℕ → Bool) (from : ℕ → Bool) where
  -- nothing is gathered before the first row
  pub gathered_start : (v : ℕ → Bool) → ((y : ℕ) → y < B → v y ≡ false) → Gathered B g from (up_to 0) v
  unfolding Gathered up_to some
  gathered_start v h = h

  -- row i is added
  pub gathered_more : (i : ℕ) (v w : ℕ → Bool) → Gathered B g from (up_to i) v → ((y : ℕ) → y < B → w y ≡ (v y || (from i && g i y))) → Gathered B g from (up_to (i + 1)) w
  unfolding Gathered
  gathered_more i v w h k y l = k y l ∙ rw (add-one i, some_last (λ x. from x && g x y) i, h y l)

  -- the same from the last row down
  pub gathered_top : (n : ℕ) (v : ℕ → Bool) → ((y : ℕ) → y < B → v y ≡ false) → Gathered B g from (up_from n (n - n)) v
  unfolding Gathered up_from some
  gathered_top n v h = let e : n - n ≡ 0 = omega arith in rw e h

  pub gathered_down : (n i : ℕ) (v w : ℕ → Bool) → i < n → Gathered B g from (up_from (i + 1) (n - (i + 1))) v → ((y : ℕ) → y < B → w y ≡ (v y || (from i && g i y))) → Gathered B g from (up_from i (n - i)) w
  unfolding Gathered up_from some
  gathered_down n i v w b h k y l =
      let e : n - i ≡ suc (n - (i + 1)) = omega arith in
      let f : suc i ≡ i + 1 = omega arith in
      k y l ∙ rw (e, f, h y l) (or_comm (some (λ x. from x && g x y) (up_from (i + 1) (n - (i + 1)))) (from i && g i y))

-- ---- the running scalars

-- v is given and larger than a, so it is taken: what is below a is below v as well
pub larger_taken : (given : Bool) (y a v : ℕ) → (given && ltb a v) ≡ true → ltb y v ≡ (ltb y a || (given && ltb y v))
larger_taken true y a v e = elim (lt_or_ge y a) [
  | inl l ↦ rw (lt-ltb y a l, lt-ltb y v (omega (arith, ltb-true a v e)))
  | inr l ↦ rw (le-ltb y a l)
]
larger_taken false y a v e = absurd (false≢true e)

-- v is not given or not larger, so a stays
pub larger_left : (given : Bool) (y a v : ℕ) → (given && ltb a v) ≡ false → ltb y a ≡ (ltb y a || (given && ltb y v))
larger_left true y a v e = elim (lt_or_ge y a) [
  | inl l ↦ rw (lt-ltb y a l)
  | inr l ↦ rw (le-ltb y a l, le-ltb y v (omega (arith, ltb-false a v e)))
]
larger_left false y a v e = sym (or-false (ltb y a))

-- the same of what is smaller
pub smaller_taken : (given : Bool) (y a v : ℕ) → (given && ltb v a) ≡ true → ltb v y ≡ (ltb a y || (given && ltb v y))
smaller_taken true y a v e = elim (lt_or_ge a y) [
  | inl l ↦ rw (lt-ltb a y l, lt-ltb v y (omega (arith, ltb-true v a e)))
  | inr l ↦ rw (le-ltb a y l)
]
smaller_taken false y a v e = absurd (false≢true e)

pub smaller_left : (given : Bool) (y a v : ℕ) → (given && ltb v a) ≡ false → ltb a y ≡ (ltb a y || (given && ltb v y))
smaller_left true y a v e = elim (lt_or_ge a y) [
  | inl l ↦ rw (lt-ltb a y l)
  | inr l ↦ rw (le-ltb a y l, le-ltb v y (omega (arith, ltb-false v a e)))
]
smaller_left false y a v e = sym (or-false (ltb a y))

-- the smaller of two is below what one of them is below
pub smaller_taken_of : (y a v : ℕ) → v < a → ltb v y ≡ (ltb a y || ltb v y)
smaller_taken_of y a v l = smaller_taken true y a v (lt-ltb v a l)

pub smaller_left_of : (y a v : ℕ) → a ≤ v → ltb a y ≡ (ltb a y || ltb v y)
smaller_left_of y a v l = smaller_left true y a v (le-ltb v a l)

-- ---- the last row at which `from` holds

module _ (from : ℕ → Bool) (n : ℕ) where
  -- is above a number exactly if some such row is
  pub last_is : (k : ℕ) → k < n → from k ≡ true → ((x : ℕ) → k + 1 ≤ x → x < n → from x ≡ false) → (z : ℕ) → ltb z k ≡ some (λ x. from x && ltb z x) (up_to n)
  last_is k l at none z = elim (lt_or_ge z k) [
    | inl m ↦ rw (lt-ltb z k m) (sym (is_true (some (λ x. from x && ltb z x) (up_to n)) (some_from (λ x. from x && ltb z x) (up_to n) k (truly (rw (at, lt-ltb z k m))) (has_up_to_from n k l))))
    | inr m ↦ rw (le-ltb z k m) (sym (none_below (λ x. from x && ltb z x) n (λ x b. elim (lt_or_ge k x) [
      | inl o ↦ rw (none x (omega arith) b)
      | inr o ↦ rw (le-ltb z x (omega arith)) (and-false (from x))
    ])))
  ]

  -- and where there is none, no row is
  pub last_none : ((x : ℕ) → x < n → from x ≡ false) → (z : ℕ) → ltb z 0 ≡ some (λ x. from x && ltb z x) (up_to n)
  last_none none z = rw (le-ltb z 0 (omega arith)) (sym (none_below (λ x. from x && ltb z x) n (λ x b. rw (none x b))))

-- ---- what rows give, and what is taken of it

-- the rows of a set that are marked
abbrev pub marked : List Bool → ℕ → Bool
marked from x = get_or from x false

-- those of them that may give
unfoldable pub giving : List Bool → (ℕ → Bool) → ℕ → Bool
giving from give x = get_or from x false && give x

pub gives : (from : List Bool) (give : ℕ → Bool) (x : ℕ) (f a : Bool) → f ≡ get_or from x false → a ≡ give x → (f && a) ≡ giving from give x
unfolding giving
gives from give x f a is-marked may = rw (← is-marked, ← may)

-- what is gathered from those that may give
given_all : (from : List Bool) (give : ℕ → Bool) (g : ℕ → ℕ → Bool) (y : ℕ) (l : List ℕ) → some (λ x. giving from give x && g x y) l ≡ some (λ x. get_or from x false && (give x && g x y)) l
unfolding giving
given_all from give g y l = some_same _ _ l (λ x. and_assoc (get_or from x false) (give x) (g x y))

-- is y what r says of some row at which `from` holds?
abbrev pub met : List ℕ → (ℕ → ℕ → Bool) → (ℕ → Bool) → ℕ → Bool
met t r from y = some (λ x. from x && r x y) (up_to (rows t))

module _ (t : List ℕ) (r : ℕ → ℕ → Bool) (from : List Bool) (y : ℕ) where
  -- only some rows give
  pub hit_give : (give : ℕ → Bool) → met t r (giving from give) y ≡ hit t (λ x z. give x && r x z) from y
  unfolding hit
  hit_give give = given_all from give r y (up_to (rows t))

  -- only some rows are taken
  pub hit_take : (take : ℕ → Bool) → (hit t r from y && take y) ≡ hit t (λ x z. r x z && take z) from y
  unfolding hit
  hit_take take = sym (some_same _ _ (up_to (rows t)) (λ x. sym (and_assoc (get_or from x false) (r x y) (take y))) ∙ some_and (λ x. get_or from x false && r x y) (take y) (up_to (rows t)))

  -- a marked row is hit itself, where own
  pub hit_own : (own : Bool) → y < rows t → ((own && get_or from y false) || hit t r from y) ≡ hit t (λ x z. (own && eqb x z) || r x z) from y
  unfolding hit
  hit_own true low = sym (some_at_or (λ x. get_or from x false) (λ x. r x y) (rows t) y low)
  hit_own false low = refl

-- what r and s say alike
pub hits_alike : (t : List ℕ) (r s : ℕ → ℕ → Bool) (from to : List Bool) → Hits t r from to → ((x y : ℕ) → r x y ≡ s x y) → Hits t s from to
unfolding Hits hit
hits_alike t r s from to h e y l = h y l ∙ some_same _ _ (up_to (rows t)) (λ x. rw (e x y))

-- ---- what each pass reaches

-- the parent of a row does not stand after it
pub rooted : (t : List ℕ) → Rooted t → (y : ℕ) → y < rows t → parent_of t y ≤ y
unfolding Rooted
rooted t h = h

-- x's parent is y
abbrev pub over : List ℕ → ℕ → ℕ → Bool
over t x y = under t y x

-- the flag of row i's parent is set where row i gives
pub flag_step : (t : List ℕ) (s : List Bool) (i : ℕ) (f : Bool) → parent_of t i < length s → (q : ℕ)
    → get_or (set s (parent_of t i) (get_or s (parent_of t i) false || (f && ltb 0 i))) q false ≡ (get_or s q false || (f && over t i q))
unfolding under
flag_step t s i f l q = set_if s (parent_of t i) (f && ltb 0 i) l q ∙ rw (and_assoc f (ltb 0 i) (eqb (parent_of t i) q))

swap : (a b c : Bool) → (a && (b && c)) ≡ (b && (a && c))
swap true b c = refl
swap false true c = refl
swap false false c = refl

module _ (t : List ℕ) (from : ℕ → Bool) (y : ℕ) (low : y < rows t) where
  -- inside another: some end of a row behind y is not before it
  inside_met : (v : ℕ → Bool) → Gathered (beyond + 1) (λ x z. ltb z (end t x + 1)) from (up_to y) v → y ≤ beyond → v y ≡ met t (inside t) from y
  unfolding Gathered inside
  inside_met v h b = h y (omega arith) ∙ sym
      (some_below (λ x. from x && (ltb x y && leb y (end t x))) (λ x. ltb x y && (from x && ltb y (end t x + 1))) (rows t) (λ x l. rw (leb_ltb y (end t x)) (swap (from x) (ltb x y) (ltb y (end t x + 1))))
      ∙ window_below (λ x. from x && ltb y (end t x + 1)) (rows t) y (omega arith))

  -- around another: the nearest row after y is not past its end
  around_met : (v : ℕ → Bool) → Gathered (beyond + 1) ltb from (up_from (y + 1) (rows t - (y + 1))) v → end t y < beyond → v (end t y + 1) ≡ met t (λ x z. inside t z x) from y
  unfolding Gathered inside
  around_met v h b = h (end t y + 1) (omega arith) ∙ sym
      (some_below (λ x. from x && (ltb y x && leb x (end t y))) (λ x. ltb y x && (from x && ltb x (end t y + 1))) (rows t) (λ x l. rw (leb_ltb x (end t y)) (swap (from x) (ltb y x) (ltb x (end t y + 1))))
      ∙ window_above (λ x. from x && ltb x (end t y + 1)) (rows t) y)

module _ (t : List ℕ) (from : List Bool) (y : ℕ) (low : y < rows t) where
  -- the parent was marked
  pub under_hit : Rooted t → (ltb 0 y && get_or from (parent_of t y) false) ≡ hit t (under t) from y
  unfolding hit under
  under_hit h = sym
      (some_below (λ x. get_or from x false && (ltb 0 y && eqb (parent_of t y) x)) (λ x. (ltb 0 y && get_or from x false) && eqb x (parent_of t y)) (rows t) (λ x l. rw (eqb_sym (parent_of t y) x) (regroup (get_or from x false) (ltb 0 y) (eqb x (parent_of t y))))
      ∙ some_at (λ x. ltb 0 y && get_or from x false) (rows t) (parent_of t y) (omega (arith, rooted t h y low)))
    where
      regroup : (a b c : Bool) → (a && (b && c)) ≡ ((b && a) && c)
      regroup a true c = refl
      regroup a false c = and-false a

  -- inside and around, of marks: those taken, and those that give
  pub inside_hit : (own : Bool) (taken : Asked) (v : ℕ → Bool) → Gathered (beyond + 1) (λ x z. ltb z (end t x + 1)) (marked from) (up_to y) v → y ≤ beyond
      → ((own && get_or from y false) || (v y && admitted t taken y)) ≡ hit t (λ x z. (own && eqb x z) || (inside t x z && admitted t taken z)) from y
  inside_hit own taken v h b =
      let met-inside : v y ≡ hit t (inside t) from y = unfold hit in inside_met t (marked from) y low v h b in
      rw (met-inside, hit_take t (inside t) from y (admitted t taken)) (hit_own t (λ x z. inside t x z && admitted t taken z) from y own low)

  pub around_hit : (own : Bool) (given : Asked) (v : ℕ → Bool) → Gathered (beyond + 1) ltb (giving from (admitted t given)) (up_from (y + 1) (rows t - (y + 1))) v → end t y < beyond
      → ((own && get_or from y false) || v (end t y + 1)) ≡ hit t (λ x z. (own && eqb x z) || (admitted t given x && inside t z x)) from y
  around_hit own given v h b =
      rw (around_met t (giving from (admitted t given)) y low v h b, hit_give t (λ x z. inside t z x) from y (admitted t given)) (hit_own t (λ x z. admitted t given x && inside t z x) from y own low)

module _ (t : List ℕ) (from : List Bool) (y : ℕ) (given : Asked) where
  -- after another and not inside it: the least end of the rows that give is before it
  pub after_hit : (v : ℕ → Bool) → Gathered (beyond + 1) (λ x z. ltb (end t x) z) (giving from (admitted t given)) (up_to (rows t)) v → y ≤ beyond
      → v y ≡ hit t (λ x z. admitted t given x && after t x z) from y
  unfolding Gathered
  after_hit v h b = h y (omega arith) ∙ some_same _ _ (up_to (rows t)) (λ x. rw (after_is t x y)) ∙ hit_give t (after t) from y (admitted t given)

  -- before another and not around it: the last of the rows that give is past its end
  pub before_hit : some (λ x. giving from (admitted t given) x && ltb (end t y) x) (up_to (rows t)) ≡ hit t (λ x z. admitted t given x && after t z x) from y
  before_hit = some_same _ _ (up_to (rows t)) (λ x. rw (after_is t y x)) ∙ hit_give t (λ x z. after t z x) from y (admitted t given)

-- siblings: no attribute gives, and none is taken
module _ (t : List ℕ) (from : List Bool) (y : ℕ) (low : y < rows t) where
  -- a later sibling: y's parent is flagged by the rows behind y
  later_met : Rooted t → (v : ℕ → Bool) → Gathered (rows t) (over t) (giving from (admitted t Plain)) (up_to y) v → (v (parent_of t y) && admitted t Plain y) ≡ hit t (on t FollowingSibling) from y
  unfolding Gathered hit on under giving admitted
  later_met r v h =
      ap (λ (b : Bool). b && admitted t Plain y) (h (parent_of t y) (omega (arith, rooted t r y low))
      ∙ sym (window_below (λ x. giving from (admitted t Plain) x && over t x (parent_of t y)) (rows t) y (omega arith)))
      ∙ sym (some_and (λ x. ltb x y && (giving from (admitted t Plain) x && over t x (parent_of t y))) (admitted t Plain y) (up_to (rows t)))
      ∙ some_same _ _ (up_to (rows t)) (λ x. regroup (ltb x y) (get_or from x false) (not (is_attribute t x)) (ltb 0 x) (eqb (parent_of t x) (parent_of t y)) (not (is_attribute t y)))
    where
      regroup : (c a m b d n : Bool) → ((c && ((a && m) && (b && d))) && n) ≡ (a && ((((b && c) && d) && n) && m))
      regroup c false m b d n = rw (and-false c)
      regroup c true false b d n = rw (and-false c, and-false (((b && c) && d) && n))
      regroup true true true b d n = rw (and-true b, and-true ((b && d) && n))
      regroup false true true b d n = rw (and-false b)

  -- an earlier sibling: by the rows after y, and y is not row 0
  earlier_met : Rooted t → (v : ℕ → Bool) → Gathered (rows t) (over t) (giving from (admitted t Plain)) (up_from (y + 1) (rows t - (y + 1))) v → ((ltb 0 y && v (parent_of t y)) && admitted t Plain y) ≡ hit t (on t PrecedingSibling) from y
  unfolding Gathered hit on under giving admitted
  earlier_met r v h =
      ap (λ (b : Bool). (ltb 0 y && b) && admitted t Plain y) (h (parent_of t y) (omega (arith, rooted t r y low))
      ∙ sym (window_above (λ x. giving from (admitted t Plain) x && over t x (parent_of t y)) (rows t) y))
      ∙ ap (λ (b : Bool). b && admitted t Plain y) (and_comm (ltb 0 y) _ ∙ sym (some_and (λ x. ltb y x && (giving from (admitted t Plain) x && over t x (parent_of t y))) (ltb 0 y) (up_to (rows t))))
      ∙ sym (some_and (λ x. (ltb y x && (giving from (admitted t Plain) x && over t x (parent_of t y))) && ltb 0 y) (admitted t Plain y) (up_to (rows t)))
      ∙ some_same _ _ (up_to (rows t)) (λ x. rw (eqb_sym (parent_of t y) (parent_of t x)) (by x (lt_or_ge y x) (lt_or_ge 0 y)))
    where
      by : (x : ℕ) → (y < x) ⊎ (x ≤ y) → (0 < y) ⊎ (y ≤ 0) → ((ltb y x && ((get_or from x false && not (is_attribute t x)) && (ltb 0 x && eqb (parent_of t x) (parent_of t y)))) && ltb 0 y && not (is_attribute t y))
          ≡ (get_or from x false && (ltb 0 y && ltb y x && eqb (parent_of t x) (parent_of t y) && not (is_attribute t x) && not (is_attribute t y)))
      by x (inl l) (inl p) = rw (lt-ltb y x l, lt-ltb 0 y p, lt-ltb 0 x (omega arith)) (stays (get_or from x false) (not (is_attribute t x)) (eqb (parent_of t x) (parent_of t y)) (not (is_attribute t y)))
        where
          stays : (a m d n : Bool) → ((((a && m) && d) && true) && n) ≡ (a && ((d && m) && n))
          stays false m d n = refl
          stays true false d n = rw (and-false d)
          stays true true d n = rw (and-true d)
      by x (inr l) q = rw (le-ltb y x l, and-false (ltb 0 y), and-false (get_or from x false))
      by x (inl l) (inr z) = rw (le-ltb 0 y z, and-false (get_or from x false), and-false (ltb y x && ((get_or from x false && not (is_attribute t x)) && (ltb 0 x && eqb (parent_of t x) (parent_of t y)))))

  -- the two as a pass tells them
  pub later_hit : Rooted t → (v : ℕ → Bool) → Gathered (rows t) (over t) (giving from (admitted t Plain)) (up_to y) v → (v (parent_of t y) && (ltb 0 y && admitted t Plain y)) ≡ hit t (on t FollowingSibling) from y
  unfolding Gathered up_to some
  later_hit r v h = elim (lt_or_ge 0 y) [
    | inl p ↦ rw (lt-ltb 0 y p) (later_met r v h)
    | inr z ↦ rw (none z) (rw (none z) at (later_met r v h))
  ]
    where
      none : y ≤ 0 → v (parent_of t y) ≡ false
      none z = let e : y ≡ 0 = omega arith in h (parent_of t y) (omega (arith, rooted t r y low)) ∙ rw e

  pub earlier_hit : Rooted t → (v : ℕ → Bool) → Gathered (rows t) (over t) (giving from (admitted t Plain)) (up_from (y + 1) (rows t - (y + 1))) v → (v (parent_of t y) && (ltb 0 y && admitted t Plain y)) ≡ hit t (on t PrecedingSibling) from y
  earlier_hit r v h = regroup (v (parent_of t y)) (ltb 0 y) (admitted t Plain y) ∙ earlier_met r v h
    where
      regroup : (a b c : Bool) → (a && (b && c)) ≡ ((b && a) && c)
      regroup true b c = rw (and-true b)
      regroup false b c = rw (and-false b)

-- a sibling that gives flags its parent
pub sibling_flag : (t : List ℕ) (s : List Bool) (i : ℕ) (m a : Bool) → parent_of t i < length s → (q : ℕ)
    → get_or (set s (parent_of t i) (get_or s (parent_of t i) false || (m && (ltb 0 i && a)))) q false ≡ (get_or s q false || ((m && a) && over t i q))
unfolding under
sibling_flag t s i m a l q = set_if s (parent_of t i) (m && (ltb 0 i && a)) l q ∙ ap (λ (b : Bool). get_or s q false || b) (regroup m (ltb 0 i) a (eqb (parent_of t i) q))
  where
    regroup : (m b a d : Bool) → ((m && (b && a)) && d) ≡ ((m && a) && (b && d))
    regroup true b true d = rw (and-true b)
    regroup true b false d = rw (and-false b)
    regroup false b a d = refl

-- ---- marks written for every row

module _ (t : List ℕ) (r : ℕ → ℕ → Bool) (old now : List Bool) (n : ℕ) where
  pub up_hits : Wrote (hit t r old) old now n → rows t ≤ n → Hits t r old now
  unfolding Hits
  up_hits h e = wrote_all (hit t r old) old now (rows t) n h e

  pub down_hits : WroteDown (hit t r old) n old now 0 → n ≡ rows t → Hits t r old now
  unfolding Hits
  down_hits h e y l = down_all (hit t r old) n old now h y (omega arith)

-- every set reaches itself
pub self_hits : (t : List ℕ) (marks : List Bool) → Hits t (on t Itself) marks marks
unfolding Hits hit on
self_hits t marks y low = sym (some_at (λ x. get_or marks x false) (rows t) y low)

-- and is reached by itself
pub self_hits_back : (t : List ℕ) (marks : List Bool) → Hits t (λ y x. on t Itself x y) marks marks
unfolding on
self_hits_back t marks = hits_alike t (on t Itself) (λ y x. on t Itself x y) marks marks (self_hits t marks) (λ x y. eqb_sym x y)

-- ---- the parents, which are the flags themselves: a row's flag stands where its mark was

-- the marks from i on are as they were
unfoldable pub Ahead : List Bool → List Bool → ℕ → Type 0
Ahead old now i = (y : ℕ) → i ≤ y → get_or now y false ≡ get_or old y false

pub ahead_start : (old : List Bool) → Ahead old old 0
unfolding Ahead
ahead_start old y l = refl

-- row i's own mark and one that is not after it are written
pub ahead_more : (old now : List Bool) (i p : ℕ) (v w : Bool) → Ahead old now i → p ≤ i → Ahead old (set (set now i v) p w) (i + 1)
unfolding Ahead
ahead_more old now i p v w h b y l = get_or-set_other (set now i v) p y w false (λ e. omega arith) ∙ get_or-set_other now i y v false (λ e. omega arith) ∙ h y (omega arith)

pub ahead_at : (old now : List Bool) (i : ℕ) → Ahead old now i → get_or now i false ≡ get_or old i false
unfolding Ahead
ahead_at old now i h = h i (omega arith)

-- the flags of the rows passed
abbrev pub handed : ℕ → List Bool → ℕ → Bool
handed i now q = ltb q i && get_or now q false

pub handed_start : (now : List Bool) (q : ℕ) → handed 0 now q ≡ false
handed_start now q = rw (le-ltb q 0 (omega arith))

-- row i's mark is taken off and handed to its parent
pub handed_more : (t : List ℕ) (now : List Bool) (i : ℕ) (f : Bool) → parent_of t i ≤ i → i < length now → (q : ℕ)
    → handed (i + 1) (set (set now i false) (parent_of t i) (get_or (set now i false) (parent_of t i) false || (f && ltb 0 i))) q ≡ (handed i now q || (f && over t i q))
unfolding under
handed_more t now i f before l q =
    ap (λ (c : Bool). ltb q (i + 1) && c) (flag_step t (set now i false) i f (simp length-set (omega arith)) q)
    ∙ by_place (lt_or_ge q i)
  where
    given : Bool
    given = f && over t i q

    by_place : (q < i) ⊎ (i ≤ q) → (ltb q (i + 1) && (get_or (set now i false) q false || given)) ≡ ((ltb q i && get_or now q false) || given)
    by_place (inl k) = rw (lt-ltb q (i + 1) (omega arith), lt-ltb q i k, get_or-set_other now i q false false (λ e. omega arith))
    by_place (inr k) = rw (le-ltb q i k) (at_or_after (eq_or_ne q i))
      where
        at_or_after : (q ≡ i) ⊎ ((q ≡ i) → ⊥) → (ltb q (i + 1) && (get_or (set now i false) q false || given)) ≡ given
        at_or_after (inl e) = rw (lt-ltb q (i + 1) (omega arith), e, get_or-set_same now i false false l)
        at_or_after (inr e) = rw (le-ltb q (i + 1) (omega (arith, e))) (sym nothing)
          where
            nothing : given ≡ false
            nothing = rw (ne_eqb (parent_of t i) q (λ d. absurd (omega (arith, d))), and-false (ltb 0 i)) (and-false f)

pub handed_hits : (t : List ℕ) (give : ℕ → Bool) (old now : List Bool) (i : ℕ) → Gathered (rows t) (over t) (giving old give) (up_to i) (handed i now) → i ≡ rows t → Hits t (λ x y. give x && over t x y) old now
unfolding Gathered Hits
handed_hits t give old now i h e y l =
    let flag : handed i now y ≡ get_or now y false = rw (lt-ltb y i (omega arith)) in
    let all : handed i now y ≡ met t (over t) (giving old give) y = rw (← e) (h y l) in
    sym flag ∙ all ∙ hit_give t (over t) old y give

-- Accepted paths: what a row that is not broken holds, and that an accepted path's tree has all of its rows.
-- The last: the links that are still open below row m lead to m rows in all; row m closes two and opens one, and at the end only the top is open.
-- Assumes nothing.
use Prim.Native.Nat.{ℕ, zero, suc, ◌+◌, ◌-◌, ◌<◌, ◌≤◌}
use mathlib.Core.Path.{◌≡◌, refl, sym, ap}
use mathlib.Core.Logic.{◌⊎◌, inl, inr}
use mathlib.Core.Bool.{Bool, true, false, ◌&&◌, ◌||◌, not, cond, true≢false}
use mathlib.Core.List.{List}
use lib.Dec.{T, leb, ltb, eqb, eqb→eq, leb→le}
use native.Mathlib.Omega.{arith}
use native.Mathlib.Nat.{eq-or-lt_of_le}
use native.Mathlib.Numerals.{add-one}
use borrow.Author.Tests.{ne_eqb, eq-eqb, lt-ltb}
use Rattle.meaning.specs.Rows.{op_at, code, field, fields_of, is_literal, is_step, is_link, is_unknown, is_path, may_miss, takes, good_link, good_field, good_fields, follow, first_link, second_link, links, linked_below, links_again, misplaced, broken_row, rows_of, path_length_allowed}
use Rattle.meaning.specs.declared.Op.{Op}
use Rattle.meaning.specs.declared.Field.{Field}
use Rattle.meaning.specs.Tree.{tree, index_or_axis, test_at}
use Rattle.meaning.specs.Turning.{weight}
use Rattle.meaning.specs.Answers.{path_tree}
use Rattle.meaning.proofs.Bools.{and_l, and_r, truly, is_true, not_false, or_none_l, or_none_r}
use Rattle.meaning.proofs.Lists.{none_below, some_last}
use Rattle.meaning.proofs.Exactly.{AcceptedPath}
use Rattle.meaning.proofs.Trees.{follow_in, first_le, second_le, tree_zero, tree_suc}
use Rattle.meaning.proofs.Ops.{code_op, literal_is_no_step, field_by_kind, first_unused, second_unused, third_unused, fourth_unused}

-- ---- rows of an accepted path

-- what stands in row r: an op, two links (a literal has its index there), an axis and a test
pub record Holds (p : List ℕ) (r : ℕ) (op : Op) (l m c d : ℕ) : Type 0 where
  pub op_at_lem : field p r 0 ≡ code op
  pub a_at : field p r 1 ≡ cond (is_literal op) c l
  pub b_at : field p r 2 ≡ m
  pub c_at : field p r 3 ≡ cond (is_literal op) 0 c
  pub d_at : field p r 4 ≡ d

-- a link is none where its field may miss it, or names a lower row of its sort
abbrev pub Sorted : List ℕ → ℕ → Field → ℕ → Type 0
Sorted p r f l = ((l ≡ 0) × T (may_miss f)) ⊎ ((0 < l) × (l ≤ r) × T (takes f (op_at p (l - 1))))

-- a good link
pub good_link_sorted : (p : List ℕ) (r : ℕ) (f : Field) (l : ℕ) → T (good_link p r f l) → Sorted p r f l
unfolding good_link
good_link_sorted p r f zero g = inl (refl, g)
good_link_sorted p r f (suc l) g =
    let h : T (leb (suc l) r && takes f (op_at p (suc l - 1))) = rw (ne_eqb (suc l) 0 (λ e. omega arith)) at g in
    inr (omega arith, leb→le (suc l) r (and_l (leb (suc l) r) (takes f (op_at p (suc l - 1))) h), and_r (leb (suc l) r) (takes f (op_at p (suc l - 1))) h)

sorted_le : (p : List ℕ) (r : ℕ) (f : Field) (l : ℕ) → Sorted p r f l → l ≤ r
sorted_le p r f l (inl h) = omega arith
sorted_le p r f l (inr h) = h.1

module _ (p : List ℕ) (literals : ℕ) (acc : AcceptedPath p literals) where
  -- a path has a row
  pub some_path_row : 0 < rows_of p
  unfolding path_length_allowed
  some_path_row =
      let l : T (path_length_allowed p) = truly acc.allowed in
      let f : T (leb 1 (rows_of p)) = search (and_l, and_r) in
      omega (arith, leb→le)

  module _ (r : ℕ) (below : r < rows_of p) where
    -- what a row that is not broken keeps: its op, its fields, what it links and its place
    pub known_op : is_unknown (op_at p r) ≡ false
    unfolding broken_row
    known_op = let w : broken_row p literals r ≡ false = acc.whole r below in search (or_none_l, or_none_r)

    pub good_fields_lem : T (good_fields p literals r)
    unfolding broken_row
    good_fields_lem =
        let w : broken_row p literals r ≡ false = acc.whole r below in
        let g : not (good_fields p literals r) ≡ false = search (or_none_l, or_none_r) in
        not_false (good_fields p literals r) g

    pub links_once : links_again p r ≡ false
    unfolding broken_row
    links_once = let w : broken_row p literals r ≡ false = acc.whole r below in search (or_none_l, or_none_r)

    pub well_placed_lem : misplaced p r ≡ false
    unfolding broken_row
    well_placed_lem = let w : broken_row p literals r ≡ false = acc.whole r below in search (or_none_l, or_none_r)

    good_a : T (good_field p literals r (fields_of (op_at p r)).a (field p r 1))
    unfolding good_fields
    good_a = let g : T (good_fields p literals r) = good_fields_lem in search (and_l, and_r)

    good_b : T (good_field p literals r (fields_of (op_at p r)).b (field p r 2))
    unfolding good_fields
    good_b = let g : T (good_fields p literals r) = good_fields_lem in search (and_l, and_r)

    good_c : T (good_field p literals r (fields_of (op_at p r)).c (field p r 3))
    unfolding good_fields
    good_c = let g : T (good_fields p literals r) = good_fields_lem in search (and_l, and_r)

    good_d : T (good_field p literals r (fields_of (op_at p r)).d (field p r 4))
    unfolding good_fields
    good_d = let g : T (good_fields p literals r) = good_fields_lem in search (and_l, and_r)

    -- every link of a row is in range and of its sort
    pub first_link_sorted : is_link (fields_of (op_at p r)).a ≡ true → Sorted p r (fields_of (op_at p r)).a (field p r 1)
    first_link_sorted e =
        good_link_sorted p r (fields_of (op_at p r)).a (field p r 1) (rw (field_by_kind, e) at good_a)

    pub second_link_sorted : is_link (fields_of (op_at p r)).b ≡ true → Sorted p r (fields_of (op_at p r)).b (field p r 2)
    second_link_sorted e =
        good_link_sorted p r (fields_of (op_at p r)).b (field p r 2) (rw (field_by_kind, e) at good_b)

    holds_a : field p r 1 ≡ cond (is_literal (op_at p r)) (index_or_axis p r) (first_link p r)
    unfolding index_or_axis first_link
    holds_a = go (is_literal (op_at p r)) (is_link (fields_of (op_at p r)).a) refl refl
      where
        go : (q k : Bool) → is_literal (op_at p r) ≡ q → is_link (fields_of (op_at p r)).a ≡ k
            → field p r 1 ≡ cond q (cond q (field p r 1) (cond (is_step (op_at p r)) (field p r 3) 0)) (cond k (follow r (field p r 1)) 0)
        go true k e f = refl
        go false true e f = sym (follow_in r (field p r 1) (sorted_le p r (fields_of (op_at p r)).a (field p r 1) (first_link_sorted f)))
        go false false e f = first_unused p literals r (op_at p r) (field p r 1) e f good_a

    holds_b : field p r 2 ≡ second_link p r
    unfolding second_link
    holds_b = go (is_link (fields_of (op_at p r)).b) refl
      where
        go : (k : Bool) → is_link (fields_of (op_at p r)).b ≡ k → field p r 2 ≡ cond k (follow r (field p r 2)) 0
        go true f = sym (follow_in r (field p r 2) (sorted_le p r (fields_of (op_at p r)).b (field p r 2) (second_link_sorted f)))
        go false f = second_unused p literals r (op_at p r) (field p r 2) f good_b

    holds_c : field p r 3 ≡ cond (is_literal (op_at p r)) 0 (index_or_axis p r)
    unfolding index_or_axis
    holds_c = go (is_literal (op_at p r)) (is_step (op_at p r)) refl refl
      where
        go : (q k : Bool) → is_literal (op_at p r) ≡ q → is_step (op_at p r) ≡ k → field p r 3 ≡ cond q 0 (cond q (field p r 1) (cond k (field p r 3) 0))
        go true k e f = third_unused p literals r (op_at p r) (field p r 3) (literal_is_no_step (op_at p r) e) good_c
        go false true e f = refl
        go false false e f = third_unused p literals r (op_at p r) (field p r 3) f good_c

    holds_d : field p r 4 ≡ test_at p r
    unfolding test_at
    holds_d = go (is_step (op_at p r)) refl
      where
        go : (k : Bool) → is_step (op_at p r) ≡ k → field p r 4 ≡ cond k (field p r 4) 0
        go true f = refl
        go false f = fourth_unused p literals r (op_at p r) (field p r 4) f good_d

    -- an accepted row holds nothing but what is read from it
    pub row_holds : Holds p r (op_at p r) (first_link p r) (second_link p r) (index_or_axis p r) (test_at p r)
    row_holds = record { op_at_lem = sym (code_op (field p r 0) known_op); a_at = holds_a; b_at = holds_b; c_at = holds_c; d_at = holds_d }

-- ---- all rows

-- f 0 + .. + f (n - 1)
unfoldable sum : (ℕ → ℕ) → ℕ → ℕ
sum f zero = 0
sum f (suc n) = sum f n + f n

sum_same : (f g : ℕ → ℕ) (n : ℕ) → ((l : ℕ) → l < n → f l ≡ g l) → sum f n ≡ sum g n
unfolding sum
sum_same f g zero h = refl
sum_same f g (suc n) h = rw (sum_same f g n (λ l k. h l (omega arith)), h n (omega arith))

sum_add : (f g : ℕ → ℕ) (n : ℕ) → sum (λ l. f l + g l) n ≡ sum f n + sum g n
unfolding sum
sum_add f g zero = refl
sum_add f g (suc n) = omega (arith, sum_add f g n)

sum_zero : (f : ℕ → ℕ) (n : ℕ) → ((l : ℕ) → l < n → f l ≡ 0) → sum f n ≡ 0
unfolding sum
sum_zero f zero h = refl
sum_zero f (suc n) h = omega (arith, sum_zero f n (λ l k. h l (omega arith)), h n (omega arith))

-- the one place k
sum_at : (w : ℕ → ℕ) (k n : ℕ) → k < n → sum (λ l. cond (eqb k l) (w l) 0) n ≡ w k
unfolding sum
sum_at w k zero h = absurd (omega arith)
sum_at w k (suc n) h = elim (eq-or-lt_of_le {n = k} {m = n} (omega arith)) [
  | inl e ↦
      let z : sum (λ l. cond (eqb k l) (w l) 0) n ≡ 0 = sum_zero (λ l. cond (eqb k l) (w l) 0) n (λ l j. rw (ne_eqb k l (λ q. omega arith))) in
      let o : cond (eqb k n) (w n) 0 ≡ w k = rw (eq-eqb k n e) (ap w (sym e)) in
      omega arith
  | inr l ↦
      let z : cond (eqb k n) (w n) 0 ≡ 0 = rw (ne_eqb k n (λ q. omega arith)) in
      omega (arith, sum_at w k n l)
]

-- a link that is open below row m, and what row m closes
closes : (t a b : Bool) (w : ℕ) → (T a → t ≡ false) → (T b → (t || a) ≡ false) → cond t 0 w ≡ cond (t || (a || b)) 0 w + (cond a w 0 + cond b w 0)
closes true true b w f g = absurd (true≢false (f tt))
closes true false true w f g = absurd (true≢false (g tt))
closes true false false w f g = refl
closes false true true w f g = absurd (true≢false (g tt))
closes false true false w f g = omega arith
closes false false true w f g = omega arith
closes false false false w f g = omega arith

cond_zero : (b : Bool) (v : ℕ) → v ≡ 0 → (cond b 0 v ≡ 0) × (cond b v 0 ≡ 0)
cond_zero true v e = (refl, e)
cond_zero false v e = (e, refl)

module _ (p : List ℕ) where
  -- the rows below a link
  rows_under : ℕ → ℕ
  rows_under l = weight (tree p l)

  open_rows : ℕ → ℕ → ℕ
  open_rows m l = cond (linked_below p m l) 0 (rows_under l)

  none_under : rows_under 0 ≡ 0
  unfolding rows_under weight
  none_under = ap weight (tree_zero p)

  under_row : (r : ℕ) → rows_under (suc r) ≡ rows_under (first_link p r) + rows_under (second_link p r) + 1
  unfolding rows_under weight
  under_row r = ap weight (tree_suc p r)

  -- one row more
  pub linked_suc : (m l : ℕ) → linked_below p (suc m) l ≡ (linked_below p m l || links p m l)
  unfolding linked_below
  linked_suc m l = some_last (λ r. links p r l) m

  -- a row links lower rows only
  pub unlinked_above : (m l : ℕ) → m ≤ l → 0 < l → linked_below p m l ≡ false
  unfolding linked_below links
  unlinked_above m l h z = none_below (λ r. links p r l) m (λ r k. rw (ne_eqb (first_link p r) l (λ e. omega (arith, first_le p r)), ne_eqb (second_link p r) l (λ e. omega (arith, second_le p r))))

  fresh_first : (m l : ℕ) → links_again p m ≡ false → 0 < l → T (eqb (first_link p m) l) → linked_below p m l ≡ false
  unfolding links_again
  fresh_first m l h z k =
      let e : first_link p m ≡ l = eqb→eq (first_link p m) l k in
      let f : (ltb 0 (first_link p m) && linked_below p m (first_link p m)) ≡ false = search or_none_l in
      rw (e, lt-ltb 0 l z) at f

  fresh_second : (m l : ℕ) → links_again p m ≡ false → 0 < l → T (eqb (second_link p m) l) → (linked_below p m l || eqb (first_link p m) l) ≡ false
  unfolding links_again
  fresh_second m l h z k =
      let e : second_link p m ≡ l = eqb→eq (second_link p m) l k in
      let f : (ltb 0 (second_link p m) && (linked_below p m (second_link p m) || eqb (first_link p m) (second_link p m))) ≡ false = search (or_none_l, or_none_r) in
      rw (e, lt-ltb 0 l z) at f

  step_at : (m : ℕ) → links_again p m ≡ false → (l : ℕ) → open_rows m l ≡ open_rows (suc m) l + (cond (eqb (first_link p m) l) (rows_under l) 0 + cond (eqb (second_link p m) l) (rows_under l) 0)
  unfolding open_rows links
  step_at m h zero =
      omega (
        arith,
        cond_zero (linked_below p m 0) (rows_under 0) none_under,
        cond_zero (linked_below p (suc m) 0) (rows_under 0) none_under,
        cond_zero (eqb (first_link p m) 0) (rows_under 0) none_under,
        cond_zero (eqb (second_link p m) 0) (rows_under 0) none_under,
      )
  step_at m h (suc l) = rw (linked_suc m (suc l))
      (closes (linked_below p m (suc l)) (eqb (first_link p m) (suc l)) (eqb (second_link p m) (suc l)) (rows_under (suc l))
      (fresh_first m (suc l) h (omega arith)) (fresh_second m (suc l) h (omega arith)))

  top_open : (n : ℕ) → 0 < n → open_rows n n ≡ rows_under n
  unfolding open_rows
  top_open n h = rw (unlinked_above n n (omega arith) h)

  -- the open links below row m lead to m rows
  open_rows_lem : (m : ℕ) → ((r : ℕ) → r < m → links_again p r ≡ false) → sum (open_rows m) (suc m) ≡ m
  unfolding sum open_rows
  open_rows_lem zero h = omega (arith, cond_zero (linked_below p 0 0) (rows_under 0) none_under)
  open_rows_lem (suc m) h =
      let f : ℕ → ℕ = λ l. cond (eqb (first_link p m) l) (rows_under l) 0 in
      let g : ℕ → ℕ = λ l. cond (eqb (second_link p m) l) (rows_under l) 0 in
      let i : sum (open_rows m) (suc m) ≡ m = open_rows_lem m (λ r k. h r (omega arith)) in
      let a : sum (open_rows m) (suc m) ≡ sum (λ l. open_rows (suc m) l + (f l + g l)) (suc m) = sum_same (open_rows m) (λ l. open_rows (suc m) l + (f l + g l)) (suc m) (λ l k. step_at m (h m (omega arith)) l) in
      let b : sum (λ l. open_rows (suc m) l + (f l + g l)) (suc m) ≡ sum (open_rows (suc m)) (suc m) + sum (λ l. f l + g l) (suc m) = sum_add (open_rows (suc m)) (λ l. f l + g l) (suc m) in
      let c : sum (λ l. f l + g l) (suc m) ≡ sum f (suc m) + sum g (suc m) = sum_add f g (suc m) in
      let d : sum f (suc m) ≡ rows_under (first_link p m) = sum_at rows_under (first_link p m) (suc m) (omega (arith, first_le p m)) in
      let e : sum g (suc m) ≡ rows_under (second_link p m) = sum_at rows_under (second_link p m) (suc m) (omega (arith, second_le p m)) in
      omega (arith, under_row m, top_open (suc m) (omega arith))

  module _ (literals : ℕ) (acc : AcceptedPath p literals) where
    -- every row but the last is linked
    pub linked_row : (r : ℕ) → r + 1 < rows_of p → linked_below p (rows_of p) (r + 1) ≡ true
    unfolding misplaced
    linked_row r h =
        let w : misplaced p r ≡ false = well_placed_lem p literals acc r (omega arith) in
        is_true (linked_below p (rows_of p) (r + 1)) (not_false (linked_below p (rows_of p) (r + 1)) (rw (ne_eqb (r + 1) (rows_of p) (λ e. omega arith)) at w))

    -- the last row is a path
    pub top_is_path : is_path (op_at p (rows_of p - 1)) ≡ true
    unfolding misplaced
    top_is_path =
        let n : 0 < rows_of p = some_path_row p literals acc in
        let r : ℕ = rows_of p - 1 in
        let w : misplaced p r ≡ false = well_placed_lem p literals acc r (omega arith) in
        is_true (is_path (op_at p r)) (not_false (is_path (op_at p r)) (rw (eq-eqb (r + 1) (rows_of p) (omega arith)) at w))

    closed : (l : ℕ) → l < rows_of p → open_rows (rows_of p) l ≡ 0
    unfolding open_rows
    closed zero h = (cond_zero (linked_below p (rows_of p) 0) (rows_under 0) none_under).0
    closed (suc r) h = rw (← add-one r, linked_row r (omega arith))

    -- an accepted path's tree has as many rows as the path
    pub all_rows : weight (path_tree p) ≡ rows_of p
    unfolding rows_under sum
    all_rows =
        let n : ℕ = rows_of p in
        let a : sum (open_rows n) (suc n) ≡ n = open_rows_lem n (λ r h. links_once p literals acc r h) in
        let b : sum (open_rows n) n ≡ 0 = sum_zero (open_rows n) n closed in
        omega (arith, top_open n (some_path_row p literals acc))

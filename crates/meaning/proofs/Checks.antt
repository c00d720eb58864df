-- Laws of the checks: the search for the lowest number that fails, links of lower rows, depth row by row, and how the checks of tables and of paths stand before what follows them.
-- Assumes nothing.
use Prim.Native.Nat.{ℕ, zero, suc, ◌+◌, ◌%◌, ◌<◌, ◌≤◌, max}
use mathlib.Core.Path.{◌≡◌, refl, sym, ap, ◌∙◌}
use mathlib.Core.Logic.{inr, ⊎_elim}
use mathlib.Core.Bool.{Bool, true, false, ◌||◌, ◌&&◌, cond}
use mathlib.Core.List.{List}
use lib.ListN.{length}
use lib.Dec.{leb, ltb, eqb, leb→le}
use lib.Ieee.{Float}
use native.Mathlib.Omega.{arith}
use native.Mathlib.Nat.{max-le}
use native.Mathlib.Numerals.{add-one}
use borrow.Author.Tests.{lt-ltb, le-ltb}
use Rattle.meaning.specs.Lists.{up_to, some, lowest}
use Rattle.meaning.specs.Table.{rows, length_allowed, broken, accepted}
use Rattle.meaning.specs.Rows.{op_at, rows_of, first_link, second_link, links, linked_below, is_path, most_path_rows, path_length_allowed, bad_literal_at, broken_row}
use Rattle.meaning.specs.Tree.{linked, tree, depth, most_depth}
use Rattle.meaning.specs.Answers.{answer, table_checks, table_answer, path_checks, path_answer, path_tree}
use Rattle.meaning.specs.declared.Answer.{Answer}
use Rattle.meaning.proofs.Bools.{lt_or_ge, and_r, truly, is_true, is_false}
use Rattle.meaning.proofs.Lists.{some_last, lowest_is, lowest_some}
use Rattle.meaning.proofs.Trees.{tree_suc}
use Rattle.meaning.proofs.Exactly.{GoodPath, table_refuses, table_lets, path_refuses, path_lets, refused_table, refused_path, check_table_exactly, check_path_exactly}

-- ---- the search for the lowest number at which a test holds

-- the test fails at each number below i
unfoldable pub Passed : (ℕ → Bool) → ℕ → Type 0
Passed f i = (j : ℕ) → j < i → f j ≡ false

module _ (f : ℕ → Bool) where
  -- at the start no number is passed
  pub passed_start : Passed f 0
  unfolding Passed
  passed_start j h = absurd (omega arith)

  -- one more number at which the test fails is passed
  pub passed_more : (i : ℕ) → Passed f i → f i ≡ false → Passed f (i + 1)
  unfolding Passed
  passed_more i h e j l = ⊎_elim (λ b. h j b) (λ b. let s : j ≡ i = omega arith in ap f s ∙ e) (lt_or_ge j i)

  -- the first number at which it holds is the lowest
  pub passed_found : (n i : ℕ) → Passed f i → i < n → f i ≡ true → i ≡ lowest f n
  unfolding Passed
  passed_found n i h l e = sym (lowest_is f n i (omega arith) h (λ _. e))

  -- where all are passed, the lowest is their count
  pub passed_all : (n i : ℕ) → Passed f i → i ≡ n → i ≡ lowest f n
  unfolding Passed
  passed_all n i h e = sym (lowest_is f n i (omega arith) h (λ l. absurd (omega arith)))

-- ---- links of lower rows

-- below row 0 no row links
pub linked_none : (p : List ℕ) (l : ℕ) → linked_below p 0 l ≡ false
unfolding linked_below some up_to
linked_none p l = refl

-- one row more brings its own links
pub linked_more : (p : List ℕ) (n l : ℕ) → linked_below p (n + 1) l ≡ (linked_below p n l || links p n l)
unfolding linked_below
linked_more p n l = rw (add-one n) (some_last (λ r. links p r l) n)

-- ---- depth

-- no link has no depth
pub depth_zero : (p : List ℕ) → depth (tree p 0) ≡ 0
unfolding tree linked depth
depth_zero p = refl

-- a row's depth is made of its links' depths
pub depth_row : (p : List ℕ) (r : ℕ) → depth (tree p (r + 1)) ≡ max (depth (tree p (first_link p r))) (depth (tree p (second_link p r))) + cond (is_path (op_at p r)) 1 0
unfolding depth
depth_row p r = rw (add-one r, tree_suc p r)

one_or_none : (b : Bool) → cond b 1 0 ≤ 1
one_or_none true = omega arith
one_or_none false = omega arith

linked_depth : (f : ℕ) (p : List ℕ) (l : ℕ) → depth (linked f p l) ≤ f
unfolding linked depth
linked_depth zero p l = omega arith
linked_depth (suc f) p zero = omega arith
linked_depth (suc f) p (suc r) =
    let h : max (depth (linked f p (first_link p r))) (depth (linked f p (second_link p r))) ≤ f = max-le (linked_depth f p (first_link p r)) (linked_depth f p (second_link p r)) in
    omega (arith, one_or_none (is_path (op_at p r)))

-- a tree is no deeper than its link
pub depth_le : (p : List ℕ) (l : ℕ) → depth (tree p l) ≤ l
unfolding tree
depth_le p l = linked_depth l p l

-- ---- checks before what follows

module _ (t : List ℕ) where
  -- a table whose answer is 0 is accepted, and what follows is given
  pub table_accepted : (table_answer t).number ≡ 0 → accepted t ≡ true
  table_accepted e = ⊎_elim (λ r. absurd (refused_table r e)) (λ h. h.0) ((check_table_exactly t (table_answer t)).0 refl)

  pub table_passes : (table_answer t).number ≡ 0 → (next : Answer) → table_checks t next ≡ next
  table_passes e next = table_lets t next (table_accepted e)

  -- one with another answer is not, and has that answer whatever follows
  pub table_refused : ((table_answer t).number ≡ 0 → ⊥) → accepted t ≡ false
  table_refused f = is_false (accepted t) (λ ok. f (ap (λ (a : Answer). a.number) ((check_table_exactly t (answer 0 (rows t))).1 (inr (is_true (accepted t) ok, refl)))))

  pub table_stops : ((table_answer t).number ≡ 0 → ⊥) → (next : Answer) → table_checks t next ≡ table_answer t
  table_stops f next = ⊎_elim (λ r. table_refuses t next r) (λ h. absurd (f (ap (λ (a : Answer). a.number) h.1))) ((check_table_exactly t (table_answer t)).0 refl)

-- the same of a path
module _ (p : List ℕ) (literals : List Float) where
  pub path_accepted : (path_answer p literals).number ≡ 0 → GoodPath p literals
  path_accepted e = ⊎_elim (λ r. absurd (refused_path r e)) (λ h. h.0) ((check_path_exactly p literals (path_answer p literals)).0 refl)

  pub path_passes : (path_answer p literals).number ≡ 0 → (next : Answer) → path_checks p literals next ≡ next
  path_passes e next = path_lets p literals next (path_accepted e)

  pub path_stops : ((path_answer p literals).number ≡ 0 → ⊥) → (next : Answer) → path_checks p literals next ≡ path_answer p literals
  path_stops f next = ⊎_elim (λ r. path_refuses p literals next r) (λ h. absurd (f (ap (λ (a : Answer). a.number) h.1))) ((check_path_exactly p literals (path_answer p literals)).0 refl)

-- a path whose length is allowed has at most 256 rows
pub most_rows_lem : (p : List ℕ) → path_length_allowed p ≡ true → rows_of p ≤ most_path_rows
unfolding path_length_allowed
most_rows_lem p h = leb→le (rows_of p) most_path_rows (and_r (eqb (length p % 5) 0 && leb 1 (rows_of p)) (leb (rows_of p) most_path_rows) (truly h))

-- the table's answer, check by check
module _ (t : List ℕ) where
  pub table_length : length_allowed t ≡ false → answer 1 0 ≡ table_answer t
  unfolding table_answer table_checks
  table_length e = rw e

  pub table_row : (n l : ℕ) → length_allowed t ≡ true → n ≡ rows t → l ≡ lowest (broken t) (rows t) → l < n → answer 2 l ≡ table_answer t
  unfolding table_answer table_checks
  table_row n l e f g h = rw (e, lowest_some (broken t) (rows t), ← g, ← f, lt-ltb l n h)

  pub table_whole : (n l : ℕ) → length_allowed t ≡ true → n ≡ rows t → l ≡ lowest (broken t) (rows t) → n ≤ l → answer 0 n ≡ table_answer t
  unfolding table_answer table_checks
  table_whole n l e f g h = rw (e, lowest_some (broken t) (rows t), ← g, ← f, le-ltb l n h)

-- the path checker's answers, from what its checks found: each check looked at once those before it did not apply
module _ (p : List ℕ) (literals : List Float) where
  -- 3: the length is not allowed
  pub length_answer : path_length_allowed p ≡ false → answer 3 0 ≡ path_answer p literals
  unfolding path_answer path_checks
  length_answer a = rw a

  module _ (a : path_length_allowed p ≡ true) (i : ℕ) (is-lowest : i ≡ lowest (bad_literal_at literals) (length literals)) where
    -- 4: the lowest bad literal
    pub literal_answer : i < length literals → answer 4 i ≡ path_answer p literals
    unfolding path_answer path_checks
    literal_answer h = rw (a, lowest_some (bad_literal_at literals) (length literals), ← is-lowest, lt-ltb i (length literals) h)

    module _ (good : length literals ≤ i) (r : ℕ) (is_row : r ≡ lowest (broken_row p (length literals)) (rows_of p)) where
      -- 5: the lowest broken row
      pub row_answer : r < rows_of p → answer 5 r ≡ path_answer p literals
      unfolding path_answer path_checks
      row_answer h = rw (a, lowest_some (bad_literal_at literals) (length literals), ← is-lowest, le-ltb i (length literals) good, lowest_some (broken_row p (length literals)) (rows_of p), ← is_row, lt-ltb r (rows_of p) h)

      -- 6 where the depth is above 8, else 0
      pub depth_answer : (b : Bool) → ltb most_depth (depth (path_tree p)) ≡ b → rows_of p ≤ r → cond b (answer 6 0) (answer 0 (rows_of p)) ≡ path_answer p literals
      unfolding path_answer path_checks
      depth_answer b e h = rw (a, lowest_some (bad_literal_at literals) (length literals), ← is-lowest, le-ltb i (length literals) good, lowest_some (broken_row p (length literals)) (rows_of p), ← is_row, le-ltb r (rows_of p) h, e)

-- Numbers given back, both ways (document 01, "Numbers given back"): an answer is given exactly when its row of the paper's table
-- says so. First the rows: each constructor is one, with its condition, that those before it do not apply, and its place.
-- Assumes nothing.
use Prim.Native.Nat.{ℕ, ◌+◌, ◌*◌, ◌<◌, ◌≤◌}
use mathlib.Core.Path.{◌≡◌, refl, sym, subst, ◌∙◌}
use mathlib.Core.Logic.{◌⊎◌, inl, inr, ◌↔◌, ⊎_elim}
use mathlib.Core.Bool.{Bool, true, false, ◌||◌, not, or-true}
use mathlib.Core.List.{List}
use lib.ListN.{length}
use lib.Dec.{leb, ltb}
use lib.Ieee.{Float}
use native.Mathlib.Omega.{arith}
use borrow.Author.Tests.{ltb-true, ltb-false, leb-true, leb-false, lt-ltb, le-ltb, le-leb, lt-leb, not-true, not-false}
use Rattle.meaning.specs.Lists.{up_to, some, lowest}
use Rattle.meaning.specs.Table.{rows, length_allowed, broken, accepted}
use Rattle.meaning.specs.Rows.{rows_of, most_path_rows, path_length_allowed, bad_literal_at, broken_row}
use Rattle.meaning.specs.Tree.{depth, most_depth}
use Rattle.meaning.specs.Answers.{answer, check, table_checks, table_answer, path_tree, path_checks, path_answer, is_edition, selected, evaluation, counting_step, attribute_step, absolute_path, turning}
use Rattle.meaning.specs.declared.Answer.{Answer}
use Rattle.meaning.proofs.Bools.{is_true, or_e, truly, or_none_l, or_none_r}
use Rattle.meaning.proofs.Lists.{IsLowest, none_below, below_none, lowest_found, found_lowest, found_some}
use Rattle.meaning.proofs.Tables as T

-- ---- the rows of the table

-- 1: table length not allowed; 2: broken table row, the lowest one
pub data RefusedTable (t : List ℕ) : Answer → Type 0 where
  table_length : length_allowed t ≡ false → RefusedTable t (answer 1 0)
  table_row : {i : ℕ} → length_allowed t ≡ true → IsLowest (broken t) (rows t) i → RefusedTable t (answer 2 i)

-- literals that 4 does not apply to
abbrev pub GoodLiterals : List Float → Type 0
GoodLiterals literals = (i : ℕ) → i < length literals → bad_literal_at literals i ≡ false

-- rows, beside this many literals, that 5 does not apply to
abbrev pub GoodRows : List ℕ → ℕ → Type 0
GoodRows p literals = (r : ℕ) → r < rows_of p → broken_row p literals r ≡ false

-- 3: path length not allowed; 4: literal not allowed, the lowest bad index; 5: broken path row, the lowest one; 6: depth above 8
pub data RefusedPath (p : List ℕ) (literals : List Float) : Answer → Type 0 where
  path_length : path_length_allowed p ≡ false → RefusedPath p literals (answer 3 0)
  path_literal : {i : ℕ} → path_length_allowed p ≡ true → IsLowest (bad_literal_at literals) (length literals) i → RefusedPath p literals (answer 4 i)
  path_row : {r : ℕ} → path_length_allowed p ≡ true → GoodLiterals literals → IsLowest (broken_row p (length literals)) (rows_of p) r
      → RefusedPath p literals (answer 5 r)
  path_depth : path_length_allowed p ≡ true → GoodLiterals literals → GoodRows p (length literals) → most_depth < depth (path_tree p)
      → RefusedPath p literals (answer 6 0)

-- a path, beside this many literals, that 3, 5 and 6 do not apply to
pub record AcceptedPath (p : List ℕ) (literals : ℕ) : Type 0 where
  pub allowed : path_length_allowed p ≡ true
  pub whole : GoodRows p literals
  pub shallow : depth (path_tree p) ≤ most_depth

-- a path and literals that none of 3 to 6 applies to
abbrev pub GoodPath : List ℕ → List Float → Type 0
GoodPath p literals = AcceptedPath p (length literals) × GoodLiterals literals

-- the checkers: a refusal, or 0 with the row count
abbrev pub TableGives : List ℕ → Answer → Type 0
TableGives t a = RefusedTable t a ⊎ ((accepted t ≡ true) × (a ≡ answer 0 (rows t)))

abbrev pub PathGives : List ℕ → List Float → Answer → Type 0
PathGives p literals a = RefusedPath p literals a ⊎ (GoodPath p literals × (a ≡ answer 0 (rows_of p)))

-- evaluation. 14: no edition; 7: start node not below the row count; 8: more selected than the output holds; 0: done, with the count written
module _ (edition : ℕ) (t p : List ℕ) (literals : List Float) (start room : ℕ) where
  pub data EvaluationGives : Answer → Type 0 where
    no_edition : is_edition edition ≡ false → EvaluationGives (answer 14 edition)
    table_refused : {a : Answer} → is_edition edition ≡ true → RefusedTable t a → EvaluationGives a
    path_refused : {a : Answer} → is_edition edition ≡ true → accepted t ≡ true → RefusedPath p literals a → EvaluationGives a
    start_outside : is_edition edition ≡ true → accepted t ≡ true → GoodPath p literals → rows t ≤ start → EvaluationGives (answer 7 start)
    too_many : is_edition edition ≡ true → accepted t ≡ true → GoodPath p literals → start < rows t → room < length (selected edition t p literals start)
        → EvaluationGives (answer 8 (length (selected edition t p literals start)))
    selects : is_edition edition ≡ true → accepted t ≡ true → GoodPath p literals → start < rows t → length (selected edition t p literals start) ≤ room
        → EvaluationGives (answer 0 (length (selected edition t p literals start)))

module _ (p : List ℕ) (literals : List Float) (room : ℕ) where
  -- what a path has that is turned
  pub record Turns : Type 0 where
    pub good : GoodPath p literals
    pub none_counts : counting_step (path_tree p) ≡ 0
    pub none_of_attributes : attribute_step (path_tree p) ≡ 0
    pub not_absolute : absolute_path (path_tree p) ≡ false
    pub few : rows_of p + 1 ≤ most_path_rows
    pub fits : 5 * (rows_of p + 1) ≤ room

  -- turning. 9: a step counts, the first such; 13: a step is on the attribute axis, the first such; 10: the path is absolute; 11: rows + 1
  -- above 256, or the output shorter than 5 times that; 0: done, with the rows written
  pub data TurningGives : Answer → Type 0 where
    refused : {a : Answer} → RefusedPath p literals a → TurningGives a
    step_counts : GoodPath p literals → 0 < counting_step (path_tree p) → TurningGives (answer 9 (counting_step (path_tree p)))
    of_attributes_lem : GoodPath p literals → counting_step (path_tree p) ≡ 0 → 0 < attribute_step (path_tree p) → TurningGives (answer 13 (attribute_step (path_tree p)))
    absolute : GoodPath p literals → counting_step (path_tree p) ≡ 0 → attribute_step (path_tree p) ≡ 0 → absolute_path (path_tree p) ≡ true → TurningGives (answer 10 0)
    no_room : GoodPath p literals → counting_step (path_tree p) ≡ 0 → attribute_step (path_tree p) ≡ 0 → absolute_path (path_tree p) ≡ false
        → (most_path_rows < rows_of p + 1) ⊎ (room < 5 * (rows_of p + 1)) → TurningGives (answer 11 (rows_of p + 1))
    turns : Turns → TurningGives (answer 0 (rows_of p + 1))

-- ---- the checks, from answers to rows: what holds of each refusal, and of what follows where there is none, holds of what is given

module _ (P : Answer → Type 0) where
  check_cases : (applies : Bool) (number place : ℕ) (next : Answer) → (applies ≡ true → P (answer number place)) → (applies ≡ false → P next)
      → P (check applies number place next)
  check_cases true number place next f g = f refl
  check_cases false number place next f g = g refl

  lowest_cases : (f : ℕ → Bool) (n number : ℕ) (next : Answer) → ((i : ℕ) → IsLowest f n i → P (answer number i)) → (((i : ℕ) → i < n → f i ≡ false) → P next)
      → P (check (some f (up_to n)) number (lowest f n) next)
  lowest_cases f n number next found none = check_cases (some f (up_to n)) number (lowest f n) next (λ e. found (lowest f n) (lowest_found f n e)) (λ e. none (below_none f n e))

  table_cases : (t : List ℕ) (next : Answer) → ((a : Answer) → RefusedTable t a → P a) → (accepted t ≡ true → P next) → P (table_checks t next)
  unfolding table_checks accepted
  table_cases t next stop pass =
      check_cases (not (length_allowed t)) 1 0 _ (λ e. stop _ (table_length (not-true (length_allowed t) e))) (λ e.
      let a : length_allowed t ≡ true = not-false (length_allowed t) e in
      lowest_cases (broken t) (rows t) 2 next (λ i l. stop _ (table_row a l)) (λ w. pass (rw (a, none_below (broken t) (rows t) w))))

  path_cases : (p : List ℕ) (literals : List Float) (next : Answer) → ((a : Answer) → RefusedPath p literals a → P a) → (GoodPath p literals → P next)
      → P (path_checks p literals next)
  unfolding path_checks
  path_cases p literals next stop pass =
      check_cases (not (path_length_allowed p)) 3 0 _ (λ e. stop _ (path_length (not-true (path_length_allowed p) e))) (λ e.
      let a : path_length_allowed p ≡ true = not-false (path_length_allowed p) e in
      lowest_cases (bad_literal_at literals) (length literals) 4 _ (λ i l. stop _ (path_literal a l)) (λ g.
      lowest_cases (broken_row p (length literals)) (rows_of p) 5 _ (λ r l. stop _ (path_row a g l)) (λ w.
      check_cases (ltb most_depth (depth (path_tree p))) 6 0 next
      (λ d. stop _ (path_depth a g w (ltb-true most_depth (depth (path_tree p)) d)))
      (λ d. pass (record { allowed = a; whole = w; shallow = ltb-false most_depth (depth (path_tree p)) d }, g)))))

-- ---- the checks, from rows to answers: a refusal is given whatever follows, and where there is none what follows is given

module _ (t : List ℕ) (next : Answer) where
  pub table_refuses : {a : Answer} → RefusedTable t a → table_checks t next ≡ a
  unfolding table_checks
  table_refuses (table_length e) = rw e
  table_refuses (table_row e l) = rw (e, found_some l, found_lowest l)

  pub table_lets : accepted t ≡ true → table_checks t next ≡ next
  unfolding table_checks
  table_lets acc = rw (is_true (length_allowed t) (T.allowed t acc), none_below (broken t) (rows t) (T.whole t acc))

module _ (p : List ℕ) (literals : List Float) (next : Answer) where
  pub path_refuses : {a : Answer} → RefusedPath p literals a → path_checks p literals next ≡ a
  unfolding path_checks
  path_refuses (path_length e) = rw e
  path_refuses (path_literal e l) = rw (e, found_some l, found_lowest l)
  path_refuses (path_row e g l) = rw (e, none_below (bad_literal_at literals) (length literals) g, found_some l, found_lowest l)
  path_refuses (path_depth e g w h) =
      rw (e, none_below (bad_literal_at literals) (length literals) g, none_below (broken_row p (length literals)) (rows_of p) w, lt-ltb most_depth (depth (path_tree p)) h)

  pub path_lets : GoodPath p literals → path_checks p literals next ≡ next
  unfolding path_checks
  path_lets (acc, g) =
      rw (acc.allowed, none_below (bad_literal_at literals) (length literals) g, none_below (broken_row p (length literals)) (rows_of p) acc.whole, le-ltb most_depth (depth (path_tree p)) acc.shallow)

-- no refusal gives 0
pub refused_table : {t : List ℕ} {a : Answer} → RefusedTable t a → a.number ≡ 0 → ⊥
refused_table (table_length e) z = omega arith
refused_table (table_row e l) z = omega arith

pub refused_path : {p : List ℕ} {literals : List Float} {a : Answer} → RefusedPath p literals a → a.number ≡ 0 → ⊥
refused_path (path_length e) z = omega arith
refused_path (path_literal e l) z = omega arith
refused_path (path_row e g l) z = omega arith
refused_path (path_depth e g w h) z = omega arith

-- ---- each answer exactly when its row says so

-- the table checker gives 0 to 2
pub check_table_exactly : (t : List ℕ) (a : Answer) → (table_answer t ≡ a) ↔ TableGives t a
unfolding table_answer
check_table_exactly t a = (
  λ e. subst (TableGives t) e (table_cases (TableGives t) t _ (λ a r. inl r) (λ ok. inr (ok, refl))),
  ⊎_elim (λ r. table_refuses t _ r) (λ h. table_lets t _ h.0 ∙ sym h.1),
)

-- the path checker gives 0 and 3 to 6
pub check_path_exactly : (p : List ℕ) (literals : List Float) (a : Answer) → (path_answer p literals ≡ a) ↔ PathGives p literals a
unfolding path_answer
check_path_exactly p literals a = (
  λ e. subst (PathGives p literals) e (path_cases (PathGives p literals) p literals _ (λ a r. inl r) (λ good. inr (good, refl))),
  ⊎_elim (λ r. path_refuses p literals _ r) (λ h. path_lets p literals _ h.0 ∙ sym h.1),
)

module _ (edition : ℕ) (t p : List ℕ) (literals : List Float) (start room : ℕ) where
  evaluation_to : EvaluationGives edition t p literals start room (evaluation edition t p literals start room)
  unfolding evaluation
  evaluation_to =
      let Gives : Answer → Type 0 = EvaluationGives edition t p literals start room in
      let n : ℕ = length (selected edition t p literals start) in
      check_cases Gives (not (is_edition edition)) 14 edition _ (λ i. no_edition (not-true (is_edition edition) i)) (λ i.
      let known : is_edition edition ≡ true = not-false (is_edition edition) i in
      table_cases Gives t _ (λ a r. table_refused known r) (λ ok.
      path_cases Gives p literals _ (λ a r. path_refused known ok r) (λ good.
      check_cases Gives (leb (rows t) start) 7 start _ (λ e. start_outside known ok good (leb-true (rows t) start e)) (λ e.
      check_cases Gives (ltb room n) 8 n (answer 0 n)
      (λ f. too_many known ok good (leb-false (rows t) start e) (ltb-true room n f))
      (λ f. selects known ok good (leb-false (rows t) start e) (ltb-false room n f))))))

  evaluation_from : {a : Answer} → EvaluationGives edition t p literals start room a → evaluation edition t p literals start room ≡ a
  unfolding evaluation
  evaluation_from (no_edition u) = rw u
  evaluation_from (table_refused known r) = rw known (table_refuses t _ r)
  evaluation_from (path_refused known ok r) = rw known (table_lets t _ ok ∙ path_refuses p literals _ r)
  evaluation_from (start_outside known ok good h) = rw known (table_lets t _ ok ∙ path_lets p literals _ good ∙ rw (le-leb (rows t) start h))
  evaluation_from (too_many known ok good h k) = rw known (table_lets t _ ok ∙ path_lets p literals _ good ∙ rw (lt-leb (rows t) start h, lt-ltb room (length (selected edition t p literals start)) k))
  evaluation_from (selects known ok good h k) = rw known (table_lets t _ ok ∙ path_lets p literals _ good ∙ rw (lt-leb (rows t) start h, le-ltb room (length (selected edition t p literals start)) k))

  -- evaluation gives 0 to 8 and 14
  pub evaluation_exactly : (a : Answer) → (evaluation edition t p literals start room ≡ a) ↔ EvaluationGives edition t p literals start room a
  evaluation_exactly a = (λ e. subst (EvaluationGives edition t p literals start room) e evaluation_to, evaluation_from)

module _ (p : List ℕ) (literals : List Float) (room : ℕ) where
  turning_to : TurningGives p literals room (turning p literals room)
  unfolding turning
  turning_to =
      let Gives : Answer → Type 0 = TurningGives p literals room in
      let n : ℕ = counting_step (path_tree p) in
      let k : ℕ = attribute_step (path_tree p) in
      let m : ℕ = rows_of p + 1 in
      let many : Bool = ltb most_path_rows m in
      let short : Bool = ltb room (5 * m) in
      path_cases Gives p literals _ (λ a r. refused r) (λ good.
      check_cases Gives (ltb 0 n) 9 n _ (λ e. step_counts good (ltb-true 0 n e)) (λ e.
      let z : n ≡ 0 = omega (arith, ltb-false 0 n e) in
      check_cases Gives (ltb 0 k) 13 k _ (λ e. of_attributes_lem good z (ltb-true 0 k e)) (λ e.
      let y : k ≡ 0 = omega (arith, ltb-false 0 k e) in
      check_cases Gives (absolute_path (path_tree p)) 10 0 _ (absolute good z y) (λ r.
      check_cases Gives (many || short) 11 m (answer 0 m)
      (λ f. no_room good z y r (or_e many short (truly f)
      (λ h. inl (ltb-true most_path_rows m (is_true many h)))
      (λ h. inr (ltb-true room (5 * m) (is_true short h)))))
      (λ f. turns (record {
        good = good;
        none_counts = z;
        none_of_attributes = y;
        not_absolute = r;
        few = ltb-false most_path_rows m (or_none_l many short f);
        fits = ltb-false room (5 * m) (or_none_r many short f);
      }))))))

  turning_from : {a : Answer} → TurningGives p literals room a → turning p literals room ≡ a
  unfolding turning
  turning_from (refused r) = path_refuses p literals _ r
  turning_from (step_counts good h) = path_lets p literals _ good ∙ rw (lt-ltb 0 (counting_step (path_tree p)) h)
  turning_from (of_attributes_lem good z h) = path_lets p literals _ good ∙ rw (z, lt-ltb 0 (attribute_step (path_tree p)) h)
  turning_from (absolute good z y r) = path_lets p literals _ good ∙ rw (z, y, r)
  turning_from (no_room good z y r (inl h)) = path_lets p literals _ good ∙ rw (z, y, r, lt-ltb most_path_rows (rows_of p + 1) h)
  turning_from (no_room good z y r (inr h)) = path_lets p literals _ good ∙ rw (z, y, r, lt-ltb room (5 * (rows_of p + 1)) h, or-true (ltb most_path_rows (rows_of p + 1)))
  turning_from (turns h) =
      path_lets p literals _ h.good
      ∙ rw (h.none_counts, h.none_of_attributes, h.not_absolute, le-ltb most_path_rows (rows_of p + 1) h.few, le-ltb room (5 * (rows_of p + 1)) h.fits)

  -- turning gives 0, 3 to 6, 9 to 11 and 13
  pub refused_exactly : (a : Answer) → (turning p literals room ≡ a) ↔ TurningGives p literals room a
  refused_exactly a = (λ e. subst (TurningGives p literals room) e turning_to, turning_from)

-- What evaluation answers and leaves in its output, check by check, stated over what code has found.
-- Assumes nothing.
use Rattle.std.specs.Prelude.{Result, Ok, Err, is_err, not}
use Prim.Native.Nat.{ℕ, ◌<◌, ◌≤◌}
use mathlib.Core.Path.{◌≡◌, sym, ap, ◌∙◌}
use mathlib.Core.Bool.{Bool, true, false}
use mathlib.Core.List.{List}
use lib.ListN.{length}
use lib.Dec.{leb}
use lib.Ieee.{Float}
use native.Mathlib.Omega.{arith}
use borrow.Author.Tests.{le-leb, lt-leb, ne_eqb}
use Rattle.meaning.specs.Table.{rows, most_rows, accepted}
use Rattle.meaning.specs.Rows.{rows_of, most_path_rows}
use Rattle.meaning.specs.Tree.{tree}
use Rattle.meaning.specs.Meaning.{select}
use Rattle.meaning.specs.Answers.{answer, refused, told, check, table_answer, path_answer, is_edition, selected, handed, evaluation, output, evaluated}
use Rattle.meaning.specs.Promises.{EvaluatesPath}
use Rattle.meaning.specs.declared.Answer.{Answer}
use Rattle.meaning.specs.declared.Refusal.{Refusal}
use Rattle.meaning.specs.declared.Refusal.TheVariants.{TableLength, BrokenRow, PathLength, BadLiteral, BrokenPathRow, TooDeep, NoSuchNode, NoRoom, StepCounts, AbsolutePath, NoRoomToTurn, StepOnAttributes, NoSuchEdition}
use Rattle.meaning.proofs.Tables.{few_rows}
use Rattle.meaning.proofs.Checks as C
use Rattle.meaning.proofs.Checks.{table_passes, table_stops, table_accepted, path_accepted, path_passes, path_stops, most_rows_lem}

-- a refusal's number is not 0
pub refusal_number : (r : Refusal) → 0 < (refused r).number
refusal_number TableLength = omega arith
refusal_number (BrokenRow i) = omega arith
refusal_number PathLength = omega arith
refusal_number (BadLiteral i) = omega arith
refusal_number (BrokenPathRow r) = omega arith
refusal_number TooDeep = omega arith
refusal_number (NoSuchNode x) = omega arith
refusal_number (NoRoom n) = omega arith
refusal_number (StepCounts k) = omega arith
refusal_number AbsolutePath = omega arith
refusal_number (NoRoomToTurn n) = omega arith
refusal_number (StepOnAttributes k) = omega arith
refusal_number (NoSuchEdition edition) = omega arith

-- nor is that of an answer that a refusal is
pub refused_number : (r : Refusal) (a : Answer) → refused r ≡ a → a.number ≡ 0 → ⊥
refused_number r a e z = omega (arith, refusal_number r, ap (λ (a : Answer). a.number) e, z)

-- a table is accepted exactly if its checker's outcome is no refusal
pub accepted_told : (t : List ℕ) (r : Result ℕ Refusal) → told r ≡ table_answer t → accepted t ≡ not (is_err r)
accepted_told t (Ok n) e = table_accepted t (ap (λ (a : Answer). a.number) (sym e))
accepted_told t (Err r) e = C.table_refused t (refused_number r _ e)

-- a table whose answer is 0 has at most 8,192 rows, a path whose answer is 0 at most 256
pub table_fits : (t : List ℕ) → (table_answer t).number ≡ 0 → rows t ≤ most_rows
table_fits t e = few_rows t (table_accepted t e)

pub path_fits : (p : List ℕ) (literals : List Float) → (path_answer p literals).number ≡ 0 → rows_of p ≤ most_path_rows
path_fits p literals e = most_rows_lem p (path_accepted p literals e).0.allowed

module _ (edition : ℕ) (t p : List ℕ) (literals : List Float) (start : ℕ) (out : List ℕ) where
  -- an answer and an output, as evaluation has them
  abbrev pub Promised : Answer → List ℕ → Type 0
  Promised = EvaluatesPath edition t p literals start out

  -- a refusal leaves the output as it was
  unwritten : (r : Refusal) → refused r ≡ evaluation edition t p literals start (length out) → Promised (refused r) out
  unfolding evaluated output
  unwritten r e = (e, rw (← e, ne_eqb (refused r).number 0 (λ z. omega (arith, refusal_number r, z))))

  -- 14: no edition
  pub edition_refused : is_edition edition ≡ false → Promised (answer 14 edition) out
  unfolding evaluation
  edition_refused h = unwritten (NoSuchEdition edition) (rw h)

  -- what an edition's evaluation gives is what the checks behind that of the edition give
  module _ (known : is_edition edition ≡ true) where
    pub table_refused : (r : Refusal) → refused r ≡ table_answer t → Promised (refused r) out
    unfolding evaluation
    table_refused r e = unwritten r (rw known (e ∙ sym (table_stops t (refused_number r (table_answer t) e) _)))

    module _ (table-ok : (table_answer t).number ≡ 0) where
      pub path_refused : (r : Refusal) → refused r ≡ path_answer p literals → Promised (refused r) out
      unfolding evaluation
      path_refused r e = unwritten r (rw known (e ∙ sym (table_passes t table-ok _ ∙ path_stops p literals (refused_number r (path_answer p literals) e) _)))

      module _ (path-ok : (path_answer p literals).number ≡ 0) where
        accepted_on : (a : Answer) → a ≡ check (leb (rows t) start) 7 start (handed (selected edition t p literals start) (length out)) → a ≡ evaluation edition t p literals start (length out)
        unfolding evaluation
        accepted_on a e = rw known (e ∙ sym (table_passes t table-ok _ ∙ path_passes p literals path-ok _))

        -- 7: the start node is not below the row count
        pub start_refused : rows t ≤ start → Promised (answer 7 start) out
        start_refused h = unwritten (NoSuchNode start) (accepted_on (answer 7 start) (rw (le-leb (rows t) start h)))

        -- 8 where more are selected than the output holds; 0 with what is selected at the front, and the rest as it was
        pub all_handed : start < rows t → (l : ℕ) → l ≡ rows_of p → (s : List ℕ) → s ≡ select edition t literals (tree p l) start → (a : Answer) (out' : List ℕ) → a ≡ handed s (length out) → out' ≡ output a s out → Promised a out'
        unfolding evaluated
        all_handed below l is-l s is-s a out' e w =
            let all : s ≡ selected edition t p literals start = is-s ∙ ap (λ (l : ℕ). select edition t literals (tree p l) start) is-l in
            let r : a ≡ evaluation edition t p literals start (length out) = accepted_on a (rw (lt-leb (rows t) start below, ← all) e) in
            (r, rw (← r, ← all) w)

-- What the reader and the writer answer and leave in their outputs, check by check, stated over what code has found.
-- Assumes nothing.
use Prim.Native.Nat.{ℕ, ◌<◌, ◌≤◌}
use native.Mathlib.Omega.{arith}
use mathlib.Core.Path.{◌≡◌, refl, sym, ◌∙◌}
use mathlib.Core.Bool.{Bool, true, false, cond}
use mathlib.Core.List.{List, ◌++◌}
use lib.ListN.{length, drop}
use lib.Dec.{ltb}
use borrow.Author.Tests.{lt-ltb, le-ltb, eq-eqb, ne_eqb}
use Rattle.meaning.specs.Lists.{up_to, some, lowest}
use Rattle.meaning.specs.Table.{rows, most_rows, length_allowed, broken}
use Rattle.meaning.specs.Answers.{answer, table_answer, table_checks, output}
use Rattle.meaning.specs.declared.Answer.{Answer}
use Rattle.meaning.proofs.Bools.{is_true}
use Rattle.meaning.proofs.Checks.{table_passes, table_stops}
use Rattle.files.specs.Files.{bytes_of, Form, good, bad, HasForm}
use Rattle.files.specs.Answers.{needs, reading, rows_in, writing, ReadsTable}
use Rattle.files.proofs.Forms.{holdable_length}

-- an answer, and an output that has what was to be written exactly if the answer's number is 0
abbrev pub Answered : Answer → List ℕ → List ℕ → Answer → List ℕ → Type 0
Answered a front out told out' = (told ≡ a) × (out' ≡ output told front out)

module _ (a : Answer) (front out : List ℕ) (told : Answer) (e : told ≡ a) where
  -- a number that is not 0 leaves the output as it was
  pub refuses : (told.number ≡ 0 → ⊥) → Answered a front out told out
  unfolding output
  refuses n = (e, rw (ne_eqb told.number 0 n))

  pub writes : (out' : List ℕ) → told.number ≡ 0 → out' ≡ front ++ drop (length front) out → Answered a front out told out'
  unfolding output
  writes out' z w = (e, w ∙ rw (eq-eqb told.number 0 z))

-- the amount that is needed is there, or not
pub enough : (amount room : ℕ) (next : Answer) → amount ≤ room → needs amount room next ≡ next
enough amount room next h = rw (le-ltb room amount h)

pub short : (amount room : ℕ) (next : Answer) → room < amount → needs amount room next ≡ answer 21 amount
short amount room next h = rw (lt-ltb room amount h)

-- ---- the reader

-- it never gives 1, since the length of a good file's rows is allowed
pub reads_no_1 : (file : List ℕ) (form : Form) (room : ℕ) → HasForm most_rows file form → (reading form room).number ≡ 1 → ⊥
unfolding HasForm reading table_checks
reads_no_1 file (bad k) room h e = omega arith
reads_no_1 file (good t) room h e =
    let a : length_allowed t ≡ true = is_true (length_allowed t) (holdable_length most_rows t h.0) in
    go (ltb room (length t)) (some (broken t) (up_to (rows t))) (rw a at e)
  where
    go : (x y : Bool) → (cond x (answer 21 (length t)) (cond y (answer 2 (lowest (broken t) (rows t))) (answer 0 (length t)))).number ≡ 1 → ⊥
    go true y e = omega arith
    go false true e = omega arith
    go false false e = omega arith

pub reads_bad : (file out : List ℕ) (k : ℕ) → HasForm most_rows file (bad k) → ReadsTable most_rows file out (answer 20 k) out
unfolding reading output
reads_bad file out k h = (bad k, h, refl, refl)

pub reads_good : (file t out : List ℕ) → HasForm most_rows file (good t) → (a : Answer) (out' : List ℕ) → Answered (reading (good t) (length out)) t out a out' → ReadsTable most_rows file out a out'
unfolding rows_in
reads_good file t out h a out' r = (good t, h, r.0, r.1)

module _ (t : List ℕ) (room : ℕ) where
  pub read_short : room < length t → answer 21 (length t) ≡ reading (good t) room
  unfolding reading
  read_short h = sym (short (length t) room (table_checks t (answer 0 (length t))) h)

  pub read_broken : length t ≤ room → ((table_answer t).number ≡ 0 → ⊥) → table_answer t ≡ reading (good t) room
  unfolding reading
  read_broken h f = sym (enough (length t) room (table_checks t (answer 0 (length t))) h ∙ table_stops t f (answer 0 (length t)))

  pub read_whole : length t ≤ room → (table_answer t).number ≡ 0 → answer 0 (length t) ≡ reading (good t) room
  unfolding reading
  read_whole h z = sym (enough (length t) room (table_checks t (answer 0 (length t))) h ∙ table_passes t z (answer 0 (length t)))

  -- ---- the writer

  pub write_broken : ((table_answer t).number ≡ 0 → ⊥) → table_answer t ≡ writing t room
  unfolding writing
  write_broken f = sym (table_stops t f (needs (length (bytes_of t)) room (answer 0 (length (bytes_of t)))))

  pub write_short : (table_answer t).number ≡ 0 → room < length (bytes_of t) → answer 21 (length (bytes_of t)) ≡ writing t room
  unfolding writing
  write_short z h =
      sym (table_passes t z (needs (length (bytes_of t)) room (answer 0 (length (bytes_of t)))) ∙ short (length (bytes_of t)) room (answer 0 (length (bytes_of t))) h)

  pub write_whole : (table_answer t).number ≡ 0 → length (bytes_of t) ≤ room → answer 0 (length (bytes_of t)) ≡ writing t room
  unfolding writing
  write_whole z h =
      sym (table_passes t z (needs (length (bytes_of t)) room (answer 0 (length (bytes_of t)))) ∙ enough (length (bytes_of t)) room (answer 0 (length (bytes_of t))) h)

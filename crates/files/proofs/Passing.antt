-- Laws of reading the lines of numbers one by one: where it starts, one number more, and the file's form where it ends.
-- Assumes nothing.
use Prim.Native.Nat.{ℕ, ◌+◌, ◌*◌, ◌<◌, ◌≤◌}
use native.Mathlib.Omega.{arith}
use mathlib.Core.Path.{◌≡◌, sym, ◌∙◌}
use mathlib.Core.Logic.{⊎_elim}
use mathlib.Core.List.{List, ◌++◌, append_assoc, append-nil}
use lib.ListN.{length, get_or, drop, set, length-set}
use lib.Seq.{get_or-set_same, get_or-set_other, take-set-le}
use lib.Dec.{T}
use Rattle.meaning.specs.Table.{rows, most_rows, length_within}
use Rattle.meaning.proofs.Bools.{eq_or_ne}
use Rattle.meaning.proofs.Tables.{within_length}
use Rattle.decimal.specs.Decimal.{ascii, most_number}
use Rattle.std.specs.Prelude.{Some, Ok, Err}
use Rattle.files.specs.declared.FileRefusal.TheVariants.{BadLine}
use Rattle.files.specs.Files.{line, key, number_lines, joined, holdable, good, bad, HasForm}
use Rattle.files.specs.Parts.{LineAt, heading, lines_before, Passed, HeadOf}
use Rattle.files.proofs.Lines.{joined_more}
use Rattle.files.proofs.Forms.{holdable_length, holdable_none, none_above, holdable_from}

-- a number of rows that can be held is replaced by one that fits
holdable_set : (t : List ℕ) (i n : ℕ) → T (holdable most_rows t) → n ≤ most_number → T (holdable most_rows (set t i n))
unfolding length_within
holdable_set t i n h k =
    holdable_from most_rows (set t i n) (rw length-set (holdable_length most_rows t h)) (λ j l.
    ⊎_elim
    (λ (e : j ≡ i). let m : i < length t = omega (arith, length-set t i n) in rw (e, get_or-set_same t i n 0 m) k)
    (λ (e : j ≡ i → ⊥). rw (get_or-set_other t i j n 0 e) (none_above t (holdable_none most_rows t h) j))
    (eq_or_ne j i))

-- the first two lines have been read: numbers as many as they say, whatever they are, begin the rest
pub passed_none : (file : List ℕ) (at n : ℕ) (t : List ℕ) → HeadOf file (Ok (n, at)) → length t ≡ 4 * n → ((i : ℕ) → i < length t → get_or t i 0 ≤ most_number) → Passed file at 0 t
unfolding HeadOf joined number_lines
passed_none file at n t h l fit =
    let r : rows t ≡ n = omega arith in
    record {
      holds = holdable_from most_rows t (within_length most_rows t (omega arith) (omega (arith, h.0)) (omega (arith, h.1))) fit;
      inside = h.2;
      passed = rw (r, append-nil (line "nodes" n)) h.3;
    }

-- what is refused of a head is its first bad line
pub head_bad : (file : List ℕ) (k : ℕ) → HeadOf file (Err (BadLine k)) → HasForm most_rows file (bad k)
unfolding HeadOf
head_bad file k (j, e, h) = let i : k ≡ j = cc in rw i h

-- the rows that follow are within the limit
pub head_few : (file : List ℕ) (at n : ℕ) → HeadOf file (Ok (n, at)) → n ≤ most_rows
unfolding HeadOf
head_few file at n h = h.1

pub good_holds : (file t : List ℕ) → HasForm most_rows file (good t) → T (holdable most_rows t)
unfolding HasForm
good_holds file t h = h.0

module _ (file : List ℕ) (at i : ℕ) (t : List ℕ) (p : Passed file at i t) where
  -- one number more
  pub passed_more : (n next : ℕ) → i < length t → LineAt (ascii (key i) ++ ascii "=") file at (Some (n, next)) → Passed file next (i + 1) (set t i n)
  unfolding LineAt line
  passed_more n next h l =
      let front : lines_before i (set t i n) ≡ lines_before i t = rw (length-set, take-set-le i t i n (omega arith)) in
      let k : i < length (set t i n) = rw length-set h in
      let more : joined (lines_before (i + 1) (set t i n)) ≡ joined (lines_before i t) ++ line (key i) n =
      joined_more (heading (set t i n)) i (set t i n) k ∙ rw (front, get_or-set_same t i n 0 h) in
      record {
        holds = holdable_set t i n p.holds l.0;
        inside = l.1;
        passed = p.passed ∙ rw (l.2, more) (sym (append_assoc (joined (lines_before i t)) (line (key i) n) (drop next file)));
      }

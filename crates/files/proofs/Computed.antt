-- The form of a file, computed: every file has one (`form_of_lem`), so with `form_unique` exactly one, and the reader's answer is an equation
-- (`read_computed`). Cases compute by it.
-- Assumes nothing.
use Prim.Native.Nat.{ℕ, zero, suc, ◌+◌, ◌*◌}
use native.Mathlib.Omega.{arith}
use mathlib.Core.Path.{◌≡◌, refl}
use mathlib.Core.Logic.{inl, inr}
use mathlib.Core.Bool.{Bool, true, false, cond}
use mathlib.Core.List.{List, ◌++◌}
use lib.ListN.{length, get_or, drop, set, replicate, length-replicate, get_or-replicate, length-set}
use lib.Dec.{ltb, eqb}
use borrow.Author.Tests.{ltb-true, ltb-false, eqb-true, eqb-false}
use Rattle.meaning.specs.Table.{most_rows}
use Rattle.meaning.specs.Answers.{output}
use Rattle.meaning.specs.declared.Answer.{Answer}
use Rattle.decimal.specs.Decimal.{ascii, decimal_at}
use Rattle.std.specs.Prelude.{Option, None, Some, Result, Ok, Err}
use Rattle.files.specs.declared.FileRefusal.{FileRefusal}
use Rattle.files.specs.declared.FileRefusal.TheVariants.{BadLine}
use Rattle.files.specs.Files.{line, key, Form, good, bad, HasForm}
use Rattle.files.specs.Answers.{reading, rows_in, ReadsTable}
use Rattle.files.specs.Parts.{begins, LineAt, Passed, HeadOf}
use Rattle.files.proofs.Keyed.{no_key, no_number, no_feed, line_found}
use Rattle.files.proofs.Heads.{head_first, head_none, head_outside, head_rows}
use Rattle.files.proofs.Passing.{passed_none, passed_more, head_bad}
use Rattle.files.proofs.Forms.{bad_number, bad_last, good_file, form_unique}

-- ---- a line

-- the number of a line, and the index behind its line feed
unfoldable pub ended : List ℕ → Option (ℕ × ℕ) → Option (ℕ × ℕ)
ended file None = None
ended file (Some (n, end)) = cond (eqb (get_or file end 0) 10) (Some (n, end + 1)) None

unfoldable pub line_at : List ℕ → List ℕ → ℕ → Option (ℕ × ℕ)
line_at word file at = cond (begins word (drop at file)) (ended file (decimal_at file (at + length word))) None

line_at_lem : (word file : List ℕ) (at : ℕ) → LineAt word file at (line_at word file at)
unfolding line_at ended
line_at_lem word file at = by (begins word (drop at file)) refl
  where
    fed : (n end : ℕ) → decimal_at file (at + length word) ≡ Some (n, end) → begins word (drop at file) ≡ true
        → (f : Bool) → eqb (get_or file end 0) 10 ≡ f → LineAt word file at (cond f (Some (n, end + 1)) None)
    fed n end d b true f = line_found word file at n end d b f
    fed n end d b false f = no_feed word file at n end d f

    read : begins word (drop at file) ≡ true → (d : Option (ℕ × ℕ)) → decimal_at file (at + length word) ≡ d → LineAt word file at (ended file d)
    read b None d = no_number word file at d
    read b (Some (n, end)) d = fed n end d b (eqb (get_or file end 0) 10) refl

    by : (t : Bool) → begins word (drop at file) ≡ t → LineAt word file at (cond t (ended file (decimal_at file (at + length word))) None)
    by true b = read b (decimal_at file (at + length word)) refl
    by false b = no_key word file at b

-- ---- the first two lines

-- a head whose first bad line has this number is refused
abbrev refuse : Result (ℕ × ℕ) ℕ → Result (ℕ × ℕ) FileRefusal
refuse (Ok head) = Ok head
refuse (Err k) = Err (BadLine k)

-- a count of rows in the limits
unfoldable pub counted : Option (ℕ × ℕ) → Result (ℕ × ℕ) ℕ
counted None = Err 2
counted (Some (n, next)) = cond (eqb n 0) (Err 2) (cond (ltb most_rows n) (Err 2) (Ok (n, next)))

unfoldable pub head_of : List ℕ → Result (ℕ × ℕ) ℕ
head_of file = cond (begins (ascii "edition=1\n") file) (counted (line_at (ascii "nodes=") file 10)) (Err 1)

head_of_lem : (file : List ℕ) → HeadOf file (refuse (head_of file))
unfolding head_of counted
head_of_lem file = by (begins (ascii "edition=1\n") file) refl
  where
    rows : (b : begins (ascii "edition=1\n") file ≡ true) (n next : ℕ) → LineAt (ascii "nodes=") file 10 (Some (n, next))
        → (x y : Bool) → eqb n 0 ≡ x → ltb most_rows n ≡ y → HeadOf file (refuse (cond x (Err 2) (cond y (Err 2) (Ok (n, next)))))
    rows b n next l true y e f = head_outside file b n next l (inl (eqb-true n 0 e))
    rows b n next l false true e f = head_outside file b n next l (inr (ltb-true most_rows n f))
    rows b n next l false false e f = head_rows file b n next l (eqb-false n 0 e) (ltb-false most_rows n f)

    count : begins (ascii "edition=1\n") file ≡ true → (d : Option (ℕ × ℕ)) → LineAt (ascii "nodes=") file 10 d → HeadOf file (refuse (counted d))
    count b None l = head_none file b l
    count b (Some (n, next)) l = rows b n next l (eqb n 0) (ltb most_rows n) refl refl

    by : (t : Bool) → begins (ascii "edition=1\n") file ≡ t → HeadOf file (refuse (cond t (counted (line_at (ascii "nodes=") file 10)) (Err 1)))
    by true b = count b (line_at (ascii "nodes=") file 10) (line_at_lem (ascii "nodes=") file 10)
    by false b = head_first file b

-- ---- the numbers

unfoldable pub onwards : Form → (ℕ → ℕ → Form) → Option (ℕ × ℕ) → Form
onwards stop more None = stop
onwards stop more (Some (n, next)) = more n next

-- k numbers are left to be read: from number i on, whose line stands at index at
unfoldable pub numbers_from : ℕ → List ℕ → ℕ → ℕ → List ℕ → Form
numbers_from zero file at i t = cond (ltb at (length file)) (bad (i + 3)) (good t)
numbers_from (suc k) file at i t =
    onwards (bad (i + 3)) (λ n next. numbers_from k file next (i + 1) (set t i n)) (line_at (ascii (key i) ++ ascii "=") file at)

numbers_from_lem : (k : ℕ) (file : List ℕ) (at i : ℕ) (t : List ℕ) → i + k ≡ length t → Passed file at i t → HasForm most_rows file (numbers_from k file at i t)
unfolding numbers_from onwards LineAt line
numbers_from_lem zero file at i t e p = by (ltb at (length file)) refl
  where
    by : (x : Bool) → ltb at (length file) ≡ x → HasForm most_rows file (cond x (bad (i + 3)) (good t))
    by true l = bad_last file at i t p (omega arith) (ltb-true at (length file) l)
    by false l = good_file file at i t p (omega arith) (ltb-false at (length file) l)
numbers_from_lem (suc k) file at i t e p =
    go (λ n next. numbers_from_lem k file next (i + 1) (set t i n)) (line_at (ascii (key i) ++ ascii "=") file at) (line_at_lem (ascii (key i) ++ ascii "=") file at)
  where
    go : ((n next : ℕ) → i + 1 + k ≡ length (set t i n) → Passed file next (i + 1) (set t i n) → HasForm most_rows file (numbers_from k file next (i + 1) (set t i n)))
        → (d : Option (ℕ × ℕ)) → LineAt (ascii (key i) ++ ascii "=") file at d → HasForm most_rows file (onwards (bad (i + 3)) (λ n next. numbers_from k file next (i + 1) (set t i n)) d)
    go more None l = bad_number file at i t p (omega arith) l
    go more (Some (n, next)) l = more n next (rw length-set (omega arith)) (passed_more file at i t p n next (omega arith) l)

-- ---- the form

-- the numbers of n rows before they are read
abbrev zeros : ℕ → List ℕ
zeros n = replicate (4 * n) 0

unfoldable pub from_head : List ℕ → Result (ℕ × ℕ) ℕ → Form
from_head file (Err k) = bad k
from_head file (Ok (n, at)) = numbers_from (4 * n) file at 0 (zeros n)

unfoldable pub form_of : List ℕ → Form
form_of file = from_head file (head_of file)

-- EVERY FILE HAS A FORM, which is this one
pub form_of_lem : (file : List ℕ) → HasForm most_rows file (form_of file)
unfolding form_of from_head
form_of_lem file = by (head_of file) (head_of_lem file)
  where
    by : (h : Result (ℕ × ℕ) ℕ) → HeadOf file (refuse h) → HasForm most_rows file (from_head file h)
    by (Err k) h = head_bad file k h
    by (Ok (n, at)) h =
        let l : length (zeros n) ≡ 4 * n = length-replicate {A = ℕ} (4 * n) 0 in
        numbers_from_lem (4 * n) file at 0 (zeros n) (omega arith)
        (passed_none file at n (zeros n) h l (λ i k. let e : get_or (zeros n) i 0 ≡ 0 = get_or-replicate {A = ℕ} (4 * n) i 0 0 (omega arith) in omega arith))

-- SO THE READER'S PROMISE IS AN EQUATION
pub read_computed : (file out : List ℕ) (r : Answer) (out' : List ℕ) → ReadsTable most_rows file out r out'
    → (r ≡ reading (form_of file) (length out)) × (out' ≡ output r (rows_in (form_of file)) out)
read_computed file out r out' (form, h, e, w) =
    let s : form ≡ form_of file = form_unique most_rows file form (form_of file) h (form_of_lem file) in
    (rw s at e, rw s at w)

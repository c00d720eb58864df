-- `files::reader::read_rows` meets its contract: the buffer has room for the numbers, and what is read into it is handed over.
-- Assumes nothing.
use Rattle.std.proofs.Common.{◌≡◌, ℕ, ◌*◌, ◌≤◌, ◌<◌, length, get_or, arith}
use Rattle.std.proofs.Math.ListN.{replicate}
use Rattle.std.proofs.lemmas.List.{length-replicate, get_or-replicate, take-replicate}
use Rattle.std.proofs.lemmas.Result.{err_from_is_err_and}
use Rattle.decimal.specs.Decimal.{most_number}
use Rattle.files.specs.Parts.{NumbersOf}
use Rattle.files.proofs.Passing.{passed_none, good_holds}
use Rattle.files.proofs.Outcome.{reads_bad, reads_good}
use Rattle.files.proofs.reader.read_rows.Goals as goal

pub whole_as_front-numbers : goal.whole_as_front-numbers
whole_as_front-numbers c = λ d. (d.requires.1, omega arith)

pub read_numbers-requires : goal.read_numbers-requires
read_numbers-requires c = λ d.
    let n = 4 * d.args.count in
    let l : length (replicate {A = ℕ} n 0) ≡ n = length-replicate {A = ℕ} n 0 in
    let fit : (i : ℕ) → i < length (replicate {A = ℕ} n 0) → get_or (replicate {A = ℕ} n 0) i 0 ≤ most_number =
    λ i h. let z : get_or (replicate {A = ℕ} n 0) i 0 ≡ 0 = get_or-replicate {A = ℕ} n i 0 0 (omega arith) in omega arith in
    rw (take-replicate {X = ℕ} n c.row.N 0 d.requires.1) (passed_none _ _ _ (replicate {A = ℕ} n 0) d.requires.0 l fit)

pub returns-in_err-read_numbers : goal.returns-in_err-read_numbers
unfolding NumbersOf
returns-in_err-read_numbers c = λ d.
    let p = err_from_is_err_and d.from_residual.result d.from_residual.ensures.1 in
    let b = d.in_err-read_numbers.ensures in
    rw (p.1, p.2, b.1) (reads_bad _ _ _ b.2)

pub hand_over-requires : goal.hand_over-requires
unfolding NumbersOf
hand_over-requires c = λ d. good_holds _ _ d.in_ok-read_numbers.ensures

pub returns : goal.returns
unfolding NumbersOf
returns c = λ d. reads_good _ _ _ d.in_ok-read_numbers.ensures _ _ d.hand_over.ensures

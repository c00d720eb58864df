-- The answers of `files::reader::read_numbers`: what its code leaves to show, by the invariant beside this file. Assumes nothing.
use Rattle.std.proofs.Common.{◌≡◌, ◌+◌, length, refl, sym, ◌∙◌, arith}
use Rattle.std.proofs.lemmas.Result.{err_from_is_err_and}
use Rattle.files.specs.Files.{line}
use Rattle.files.specs.Parts.{LineAt, NumbersOf}
use Rattle.files.proofs.Keyed.{missing, present}
use Rattle.files.proofs.Passing.{passed_more}
use Rattle.files.proofs.Forms.{bad_number, bad_last, good_file}
use Rattle.files.proofs.reader.read_numbers.Goals as goal

pub read_number-requires : goal.read_number-requires
read_number-requires c = c.loop-i.invariant.inside

pub returns-in_err-n : goal.returns-in_err-n
unfolding LineAt line NumbersOf
returns-in_err-n c =
    let m = missing _ _ _ (sym c.ok_or.ensures.value ∙ c.in_err-n.was) in
    let p = err_from_is_err_and c.from_residual.result c.from_residual.ensures.1 in
    rw p.1 (c.loop-i.i + 3, p.2 ∙ m.1, bad_number _ _ _ _ c.loop-i.invariant (omega arith) (rw m.0 at c.read_number.ensures))

pub loop-i-preserved : goal.loop-i-preserved
loop-i-preserved c =
    let l = present _ _ _ _ (sym c.ok_or.ensures.value ∙ c.in_ok-n.was) in
    passed_more _ _ _ _ c.loop-i.invariant _ _ (omega arith) (rw l at c.read_number.ensures)

pub returns-then-at-file : goal.returns-then-at-file
unfolding NumbersOf
returns-then-at-file c =
    let e : length c.loop-i.numbers ≡ c.loop-i.i = omega arith in
    rw e (c.loop-i.i + 3, refl, bad_last _ _ _ _ c.loop-i.invariant (sym e) c.if-at-file.true)

pub returns : goal.returns
unfolding NumbersOf
returns c = good_file _ _ _ _ c.loop-i.invariant (omega arith) c.if-at-file.false

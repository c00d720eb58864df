-- The answers of `files::writer::put_numbers`: what its code leaves to show, by the invariant beside this file. Assumes nothing.
use Rattle.std.proofs.Common.{◌≡◌, ◌+◌, ◌<◌, [], length, get_or, take, sym, ◌∙◌, arith}
use lib.Seq.{take-length}
use Rattle.decimal.proofs.Laid.{laid_none, laid_laid}
use Rattle.files.specs.Files.{line, key, number_lines, joined}
use Rattle.files.proofs.Lines.{joined_more, joined_le, length_more}
use Rattle.files.proofs.writer.put_numbers.Goals as goal

pub loop-i-init : goal.loop-i-init
unfolding number_lines joined
loop-i-init c = (omega arith, sym (laid_none c.args.out.now c.args.from))

pub put_number-at-requires : goal.put_number-at-requires
put_number-at-requires c =
    let t = c.args.table.now in
    let i = c.loop-i.i in
    omega (arith, length_more [] i t c.loop-i-test.true, joined_le (i + 1) t)

pub loop-i-preserved : goal.loop-i-preserved
loop-i-preserved c =
    let a = c.args in
    let i = c.loop-i.i in
    let before = joined (number_lines 0 (take i a.table.now)) in
    let l = line (key i) (get_or a.table.now i 0) in
    let h : i < length a.table.now = c.loop-i-test.true in
    let n : length (joined (number_lines 0 (take (i + 1) a.table.now))) ≡ length before + length l = length_more [] i a.table.now h in
    let put = c.put_number-at.ensures in
    let inv = c.loop-i.invariant in (
      omega arith,
      rw (put.1, inv.1, inv.0, laid_laid a.out.now a.from before l (omega (arith, joined_le (i + 1) a.table.now)), joined_more [] i a.table.now h),
    )

pub returns : goal.returns
returns c =
    let t = c.args.table.now in
    let e : c.loop-i.i ≡ length t = omega arith in
    c.loop-i.invariant.1 ∙ rw (e, take-length t)

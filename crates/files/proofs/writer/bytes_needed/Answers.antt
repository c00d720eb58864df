-- The answers of `files::writer::bytes_needed`: what its code leaves to show, by the invariant beside this file. Assumes nothing.
use Rattle.std.proofs.Common.{◌≡◌, ℕ, ◌+◌, ap, ◌∙◌, List, length, get_or, arith}
use Rattle.meaning.specs.Table.{rows}
use Rattle.meaning.proofs.Tables.{length_within_lem}
use Rattle.decimal.specs.Decimal.{digits}
use Rattle.files.specs.Files.{line, key, number_lines, joined, bytes_of}
use Rattle.files.specs.Parts.{heading, lines_before}
use Rattle.files.proofs.Lines.{length_more, all_before}
use Rattle.files.proofs.Written.{heading_length}
use Rattle.files.proofs.writer.bytes_needed.Goals as goal

pub overflow_cast-table : goal.overflow_cast-table
overflow_cast-table c = omega (arith, (length_within_lem _ c.args.table.now c.requires).2)

pub loop-i-init : goal.loop-i-init
unfolding number_lines
loop-i-init c =
    let t = c.args.table.now in
    let n : length (joined (heading t)) ≡ 17 + length (digits (rows t)) = heading_length t in
    (omega arith, omega arith)

pub overflow_add-sum-in-loop-i : goal.overflow_add-sum-in-loop-i
overflow_add-sum-in-loop-i c = let r = length_within_lem _ c.args.table.now c.requires in omega arith

pub loop-i-preserved : goal.loop-i-preserved
loop-i-preserved c =
    let t = c.args.table.now in
    let i = c.loop-i.i in
    let n : length (joined (lines_before (i + 1) t)) ≡ length (joined (lines_before i t)) + length (line (key i) (get_or t i 0)) =
    length_more (heading t) i t c.loop-i-test.true in
    (omega arith, omega arith)

pub returns : goal.returns
unfolding bytes_of
returns c =
    let t = c.args.table.now in
    let e : c.loop-i.i ≡ length t = omega arith in
    c.loop-i.invariant.0 ∙ rw e (ap (λ (ls : List (List ℕ)). length (joined ls)) (all_before t))

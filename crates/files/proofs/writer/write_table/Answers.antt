-- `files::writer::write_table` meets its contract: each outcome is that of the first check that applies.
-- Assumes nothing.
use Rattle.std.proofs.Common.{◌≡◌, ap, sym, ◌∙◌, refl, arith}
use Rattle.std.proofs.lemmas.Result.{err_from_is_err_and}
use Rattle.meaning.specs.Answers.{table_answer}
use Rattle.meaning.specs.declared.Answer.{Answer}
use Rattle.meaning.proofs.Checks.{table_accepted}
use Rattle.meaning.proofs.Tables as T
use Rattle.decimal.proofs.Laid.{laid_front}
use Rattle.files.specs.Files.{bytes_of}
use Rattle.meaning.proofs.Outcome.{refused_number}
use Rattle.files.proofs.Outcome.{refuses, writes, write_broken, write_short, write_whole}
use Rattle.files.proofs.writer.write_table.Goals as goal

pub returns-in_err-check_table : goal.returns-in_err-check_table
returns-in_err-check_table c =
    let p = err_from_is_err_and c.from_residual.result c.from_residual.ensures.1 in
    let r = c.in_err-check_table.field-0.0 in
    rw (p.1, p.2)
    (refuses _ _ _ _ (c.in_err-check_table.ensures ∙ write_broken _ _ (refused_number r _ c.in_err-check_table.ensures)) (refused_number r _ refl))

pub bytes_needed-needed-requires : goal.bytes_needed-needed-requires
bytes_needed-needed-requires c =
    let passed : (table_answer c.args.table.now).number ≡ 0 = ap (λ (a : Answer). a.number) (sym c.in_ok-check_table.ensures) in
    T.allowed _ (table_accepted _ passed)

pub returns-then-out-needed : goal.returns-then-out-needed
returns-then-out-needed c =
    let passed : (table_answer c.args.table.now).number ≡ 0 = ap (λ (a : Answer). a.number) (sym c.in_ok-check_table.ensures) in
    rw c.bytes_needed-needed.ensures (refuses _ _ _ _ (write_short _ _ passed (omega arith)) (λ z. omega arith))

pub put_table-requires : goal.put_table-requires
put_table-requires c =
    let passed : (table_answer c.args.table.now).number ≡ 0 = ap (λ (a : Answer). a.number) (sym c.in_ok-check_table.ensures) in
    (T.allowed _ (table_accepted _ passed), omega arith)

pub returns : goal.returns
returns c =
    let passed : (table_answer c.args.table.now).number ≡ 0 = ap (λ (a : Answer). a.number) (sym c.in_ok-check_table.ensures) in
    rw c.bytes_needed-needed.ensures (writes _ _ _ _ (write_whole _ _ passed (omega arith)) _ refl (c.put_table.ensures ∙ laid_front c.args.out.now (bytes_of c.args.table.now)))

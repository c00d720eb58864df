-- `files::reader::hand_over` meets its contract: each outcome is that of the first check that applies.
-- Assumes nothing.
use Rattle.std.proofs.Common.{ap, sym, ◌∙◌, refl, arith}
use Rattle.std.proofs.lemmas.Result.{err_from_is_err_and}
use Rattle.meaning.specs.declared.Answer.{Answer}
use Rattle.meaning.proofs.Outcome.{refused_number}
use Rattle.files.proofs.Outcome.{refuses, writes, read_short, read_broken, read_whole}
use Rattle.files.proofs.reader.hand_over.Goals as goal

pub returns-then-out-count : goal.returns-then-out-count
returns-then-out-count c = refuses _ _ _ _ (read_short _ _ c.if-out-count.true) (λ z. omega arith)

pub returns-in_err-check_table : goal.returns-in_err-check_table
returns-in_err-check_table c =
    let p = err_from_is_err_and c.from_residual.result c.from_residual.ensures.1 in
    let r = c.in_err-check_table.field-0.0 in
    rw (p.1, p.2)
    (refuses _ _ _ _ (c.in_err-check_table.ensures ∙ read_broken _ _ c.if-out-count.false (refused_number r _ c.in_err-check_table.ensures)) (refused_number r _ refl))

pub returns : goal.returns
returns c = writes _ _ _ _ (read_whole _ _ c.if-out-count.false (ap (λ (a : Answer). a.number) (sym c.in_ok-check_table.ensures))) _ refl c.copy.ensures

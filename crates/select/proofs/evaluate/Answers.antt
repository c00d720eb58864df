-- `select::evaluate` meets its contract: each refusal is that of the first check that applies, and leaves the output as it was.
-- Assumes nothing.
use Rattle.std.proofs.Common.{◌≡◌, ap, sym, ◌∙◌, ℕ}
use Rattle.std.proofs.lemmas.Result.{err_from_is_err_and}
use Rattle.meaning.specs.Answers.{answer}
use Rattle.meaning.specs.declared.Answer.{Answer}
use Rattle.meaning.proofs.Outcome.{edition_refused, table_refused, path_refused}
use Rattle.select.proofs.evaluate.Goals as goal

-- an outcome's count has the number 0
zero : (n : ℕ) (a : Answer) → answer 0 n ≡ a → a.number ≡ 0
zero n a e = sym (ap (λ (a : Answer). a.number) e)

pub returns-then-not-is_edition : goal.returns-then-not-is_edition
returns-then-not-is_edition c = edition_refused _ _ _ _ _ _ (sym c.is_edition.ensures ∙ c.if-not-is_edition.true)

pub returns-in_err-check_table : goal.returns-in_err-check_table
returns-in_err-check_table c =
    let p = err_from_is_err_and c.from_residual.result c.from_residual.ensures.1 in
    rw (p.1, p.2) (table_refused _ _ _ _ _ _ (sym c.is_edition.ensures ∙ c.if-not-is_edition.false) _ c.in_err-check_table.ensures)

pub returns-in_err-check_path : goal.returns-in_err-check_path
returns-in_err-check_path c =
    let p = err_from_is_err_and c.from_residual-in_err-check_path.result c.from_residual-in_err-check_path.ensures.1 in
    rw (p.1, p.2) (path_refused _ _ _ _ _ _ (sym c.is_edition.ensures ∙ c.if-not-is_edition.false) (zero _ _ c.in_ok-check_table.ensures) _ c.in_err-check_path.ensures)

pub evaluate_accepted-requires : goal.evaluate_accepted-requires
evaluate_accepted-requires c =
    (sym c.is_edition.ensures ∙ c.if-not-is_edition.false, zero _ _ c.in_ok-check_table.ensures, zero _ _ c.in_ok-check_path.ensures)

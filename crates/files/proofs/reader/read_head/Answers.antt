-- `files::reader::read_head` meets its contract: each way out by what was read of the two lines.
-- Assumes nothing.
use Rattle.std.proofs.Common.{◌≡◌, sym, ◌∙◌, true}
use mathlib.Core.Logic.{inl, inr, ⊎_elim}
use Rattle.std.proofs.lemmas.Result.{err_from_is_err_and}
use Rattle.files.specs.Parts.{begins}
use Rattle.decimal.specs.Decimal.{ascii}
use Rattle.files.proofs.Keyed.{missing, present}
use Rattle.files.proofs.Heads.{head_first, head_length, head_none, head_outside, head_rows}
use Rattle.files.proofs.reader.read_head.Goals as goal

pub returns-then-not-stands_at : goal.returns-then-not-stands_at
returns-then-not-stands_at c = head_first _ (sym c.stands_at.ensures ∙ c.if-not-stands_at.true)

pub read_line-requires : goal.read_line-requires
read_line-requires c =
    let begun : begins (ascii "edition=1\n") c.args.file.now ≡ true = sym c.stands_at.ensures ∙ c.if-not-stands_at.false in
    head_length _ begun

pub returns-in_err-n : goal.returns-in_err-n
returns-in_err-n c =
    let begun : begins (ascii "edition=1\n") c.args.file.now ≡ true = sym c.stands_at.ensures ∙ c.if-not-stands_at.false in
    let m = missing _ _ _ (sym c.ok_or.ensures.value ∙ c.in_err-n.was) in
    let p = err_from_is_err_and c.from_residual.result c.from_residual.ensures.1 in
    rw (p.1, p.2, m.1) (head_none _ begun (rw m.0 at c.read_line.ensures))

pub returns-then-count-eq0 : goal.returns-then-count-eq0
returns-then-count-eq0 c =
    let begun : begins (ascii "edition=1\n") c.args.file.now ≡ true = sym c.stands_at.ensures ∙ c.if-not-stands_at.false in
    let l = present _ _ _ _ (sym c.ok_or.ensures.value ∙ c.in_ok-n.was) in
    head_outside _ begun _ _ (rw l at c.read_line.ensures) (⊎_elim inl (λ w. inr w.1) c.then-count-eq0.either)

pub returns : goal.returns
returns c =
    let begun : begins (ascii "edition=1\n") c.args.file.now ≡ true = sym c.stands_at.ensures ∙ c.if-not-stands_at.false in
    let l = present _ _ _ _ (sym c.ok_or.ensures.value ∙ c.in_ok-n.was) in
    head_rows _ begun _ _ (rw l at c.read_line.ensures) c.if-count-eq0.false c.if-count-gt-MOST_ROWS.false

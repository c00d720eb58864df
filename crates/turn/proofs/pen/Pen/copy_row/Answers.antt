-- `Pen::copy_row` meets its contract: the five numbers are those of the row, by whether its op is a literal. Assumes nothing.
use Rattle.std.proofs.Common.{ℕ, ◌*◌, [], ◌∷◌, ◌≡◌, ap, refl, sym, ◌∙◌}
use borrow.Author.Tests.{ne_eqb}
use Rattle.std.proofs.lemmas.List.Edits.{sets}
use Rattle.meaning.specs.declared.Op.{Op}
use Rattle.meaning.specs.declared.Op.TheVariants.{Literal}
use Rattle.meaning.specs.Rows.{code, op_of, is_literal, op_at}
use Rattle.meaning.specs.Tree.{index_or_axis, test_at}
use Rattle.meaning.specs.Turning.{row}
use Rattle.meaning.proofs.Ops.{op_code}
use Rattle.turn.proofs.pen.Pen.copy_row.Goals as goal

module _ (op : Op) (a b c d : ℕ) where
  literal_row : op ≡ Literal → code op ∷ c ∷ b ∷ 0 ∷ d ∷ [] ≡ row op a b c d
  unfolding row is_literal code
  literal_row e = rw e refl

  other_row : (op ≡ Literal → ⊥) → code op ∷ a ∷ b ∷ c ∷ d ∷ [] ≡ row op a b c d
  unfolding row is_literal op_of
  other_row f = rw (ne_eqb (code op) 1 (λ e. f (sym (op_code op) ∙ rw e refl))) refl

pub returns-in-Literal : goal.returns-in-Literal
returns-in-Literal c =
    let five : c.code_of.result ∷ c.index_or_axis-c.result ∷ c.args.b ∷ 0 ∷ c.test_at-d.result ∷ [] ≡ row (op_at c.args.path.now c.args.row) c.args.a c.args.b (index_or_axis c.args.path.now c.args.row) (test_at c.args.path.now c.args.row) =
    rw (c.code_of.ensures, c.op_at-op.ensures, c.index_or_axis-c.ensures.0, c.test_at-d.ensures.0) (literal_row _ c.args.a _ _ _ (sym c.in-Literal.ensures)) in
    record { same = c.put_row.ensures.same; next = c.put_row.ensures.next; stored = c.put_row.ensures.stored ∙ ap (sets c.args.self.now.out.now (5 * c.args.self.now.at)) five }

pub returns-in_default : goal.returns-in_default
returns-in_default c =
    let five : c.code_of-in_default.result ∷ c.args.a ∷ c.args.b ∷ c.index_or_axis-c.result ∷ c.test_at-d.result ∷ [] ≡ row (op_at c.args.path.now c.args.row) c.args.a c.args.b (index_or_axis c.args.path.now c.args.row) (test_at c.args.path.now c.args.row) =
    rw (c.code_of-in_default.ensures, c.op_at-op.ensures, c.index_or_axis-c.ensures.0, c.test_at-d.ensures.0) (other_row _ _ _ _ _ (λ e. c.in_default.not-Literal (c.op_at-op.ensures ∙ e))) in
    record { same = c.put_row-in_default.ensures.same; next = c.put_row-in_default.ensures.next; stored = c.put_row-in_default.ensures.stored ∙ ap (sets c.args.self.now.out.now (5 * c.args.self.now.at)) five }

-- The answers of `turn::steps_of`: one step more behind the chain before it, which is first where none before it fits. Assumes nothing.
use Rattle.std.proofs.Common.{ℕ, ◌<◌, ◌≤◌, ◌≡◌, Bool, true, false, cond, eqb, Option, Some, None, refl, sym, ◌∙◌, arith}
use Rattle.std.specs.Bool.{then_some}
use Rattle.std.specs.Option.{option_or}
use borrow.Author.Tests.{ne_eqb}
use Rattle.meaning.specs.Turning.{is_counting, is_of_attributes}
use Rattle.meaning.proofs.Counting.{steps_none, first_none, steps_row, first_row}
use Rattle.turn.specs.Parts.{First}
use Rattle.turn.proofs.+steps_of.Goals as goal

-- the first of some steps, or else their last, if it fits
first_more : (o : Option ℕ) (own : Bool) (n f g k m : ℕ) → First o f k → k ≤ m → 0 < n → n ≤ m → cond (eqb f 0) (cond own n 0) f ≡ g → First (option_or o (then_some own n)) g m
first_more None true n f g k m h low some high e = (rw h at e, some, high)
first_more None false n f g k m h low some high e = sym (rw h at e)
first_more (Some x) own n f g k m h low some high e =
    let z : (f ≡ 0) → ⊥ = λ q. omega arith in
    (h.0 ∙ rw (ne_eqb f 0 z) at e, h.1, omega arith)

pub returns-then-last-eq0-clause-count : goal.returns-then-last-eq0-clause-count
returns-then-last-eq0-clause-count t c = (steps_none _ _ (omega arith), omega arith)

pub returns-then-last-eq0-clause-counting : goal.returns-then-last-eq0-clause-counting
returns-then-last-eq0-clause-counting t c = sym (first_none _ _ _ (omega arith))

pub returns-then-last-eq0-clause-attribute : goal.returns-then-last-eq0-clause-attribute
returns-then-last-eq0-clause-attribute t c = sym (first_none _ _ _ (omega arith))

pub returns-clause-count : goal.returns-clause-count
returns-clause-count t c =
    let before = c.steps_of-before.ensures.count in (
      steps_row _ _ (λ e. omega arith) _ _ c.first_link.ensures.0 c.second_link.ensures.0 _ before.0,
      omega arith,
    )

pub returns-clause-counting : goal.returns-clause-counting
returns-clause-counting t c =
    let before = c.steps_of-before.ensures in
    rw (c.or.ensures, c.then_some.ensures)
    (first_more _ _ _ _ _ _ _ before.counting (omega arith) (omega arith) (omega arith)
    (first_row _ _ (λ e. omega arith) _ _ c.first_link.ensures.0 c.second_link.ensures.0 is_counting _ _ _ _ before.count.0 refl c.counting-counts.ensures refl))

pub returns-clause-attribute : goal.returns-clause-attribute
returns-clause-attribute t c =
    let before = c.steps_of-before.ensures in
    rw (c.or-2.ensures, c.then_some-2.ensures)
    (first_more _ _ _ _ _ _ _ before.attribute (omega arith) (omega arith) (omega arith)
    (first_row _ _ (λ e. omega arith) _ _ c.first_link.ensures.0 c.second_link.ensures.0 is_of_attributes _ _ _ _ before.count.0 refl c.is_of_attributes-of_attributes.ensures refl))

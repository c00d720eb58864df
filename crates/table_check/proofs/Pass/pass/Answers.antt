-- `table_check::Pass::pass` meets its contract: what is known of the next row follows from what was known of this one, which is sound.
-- Assumes nothing.
use Rattle.std.proofs.Common.{◌∙◌, sym, arith}
use Rattle.meaning.proofs.Bools.{truly}
use Rattle.table_check.proofs.Stops.{passed_listed}
use Rattle.table_check.proofs.Passes.{parent_before, ends_inside, pass_attribute, pass_other}
use Rattle.table_check.proofs.Pass.pass.Goals as goal

pub overflow_cast-self-then-is_attribute : goal.overflow_cast-self-then-is_attribute
overflow_cast-self-then-is_attribute g c = let s = c.args.self.now.stands in omega (arith, parent_before _ _ _ s.0 c.requires.1)

pub bounds-self-name_at : goal.bounds-self-name_at
bounds-self-name_at g c = omega (arith, passed_listed _ _ _ c.requires.1 (truly (sym c.is_attribute.ensures ∙ c.if-is_attribute.true)))

pub overflow_cast-self-2 : goal.overflow_cast-self-2
overflow_cast-self-2 g c = let s = c.args.self.now in omega (arith, ends_inside _ _ _ _ _ s.knows s.stands.0 c.requires.0 c.requires.1)

pub bounds-self-parent : goal.bounds-self-parent
bounds-self-parent g c = let s = c.args.self.now.stands in omega (arith, parent_before _ _ _ s.0 c.requires.1)

pub invariant_of-self : goal.invariant_of-self
invariant_of-self g c =
    let s = c.args.self.now in
    record {
      stands = (omega arith, omega arith, s.stands.2, s.stands.3);
      knows = rw (c.parent_at-parent.ensures.0, c.end_at.ensures.0, c.name_at.ensures.0) (pass_attribute _ _ _ _ _ s.knows s.stands.0 c.requires.0 c.requires.1 (omega arith) (sym c.is_attribute.ensures ∙ c.if-is_attribute.true) (omega arith));
    }

pub invariant_of-self-else-is_attribute : goal.invariant_of-self-else-is_attribute
invariant_of-self-else-is_attribute g c =
    let s = c.args.self.now in
    record {
      stands = (omega arith, omega arith, s.stands.2, s.stands.3);
      knows = rw (c.parent_at-parent.ensures.0, c.end_at.ensures.0) (pass_other _ _ _ _ _ s.knows s.stands.0 c.requires.0 c.requires.1 (omega arith) (sym c.is_attribute.ensures ∙ c.if-is_attribute.false));
    }

-- `table_check::Pass::may_pass` meets its contract: a row that is not well placed is not good, and of one that is, the rules for its kind and
-- its place gave their answers.
-- Assumes nothing.
use Rattle.std.proofs.Common.{◌∙◌, sym, arith}
use Rattle.table_check.proofs.Next.{ill_placed, good_of_root, good_inner}
use Rattle.table_check.proofs.Stops.{goes_on, plain_listed}
use Rattle.table_check.proofs.Pass.may_pass.Goals as goal

pub returns-then-not-is_well_placed : goal.returns-then-not-is_well_placed
returns-then-not-is_well_placed g c =
    rw (goes_on _ _ _ c.args.self.now.stands.0, ill_placed _ _ (sym c.is_well_placed.ensures ∙ c.if-not-is_well_placed.true)) (grind arith)

pub returns-then-not-text_of_root : goal.returns-then-not-text_of_root
returns-then-not-text_of_root g c =
    let well = sym c.is_well_placed.ensures ∙ c.if-not-is_well_placed.false in
    let plain = sym c.is_attribute.ensures ∙ c.if-is_attribute.false in
    rw (goes_on _ _ _ c.args.self.now.stands.0, plain_listed _ _ _ plain, good_of_root c.args.self.now.table.now c.args.self.now.row plain well (omega arith)) (grind arith)

pub returns-else-not-text_of_root : goal.returns-else-not-text_of_root
returns-else-not-text_of_root g c =
    let well = sym c.is_well_placed.ensures ∙ c.if-not-is_well_placed.false in
    let plain = sym c.is_attribute.ensures ∙ c.if-is_attribute.false in
    rw (goes_on _ _ _ c.args.self.now.stands.0, plain_listed _ _ _ plain, good_of_root c.args.self.now.table.now c.args.self.now.row plain well (omega arith)) (grind arith)

pub returns : goal.returns
returns g c =
    let well = sym c.is_well_placed.ensures ∙ c.if-not-is_well_placed.false in
    let plain = sym c.is_attribute.ensures ∙ c.if-is_attribute.false in
    rw (goes_on _ _ _ c.args.self.now.stands.0, plain_listed _ _ _ plain, good_inner c.args.self.now.table.now c.args.self.now.row plain well (λ e. omega arith)) (grind arith)

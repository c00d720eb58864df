-- `table_check::Pass::may_pass_attribute` meets its contract: the pass stops at a name without room; and the row is there again exactly if its
-- element is the last one with its name.
-- Assumes nothing.
use Rattle.std.proofs.Common.{◌∙◌, sym, arith}
use Rattle.meaning.proofs.Bools.{truly}
use Rattle.table_check.proofs.Next.{good_attribute}
use Rattle.table_check.proofs.Stops.{goes_on, listed}
use Rattle.table_check.proofs.Passes.{again_here}
use Rattle.table_check.proofs.Pass.may_pass_attribute.Goals as goal

pub returns-then-is_unlisted : goal.returns-then-is_unlisted
returns-then-is_unlisted g c = rw (goes_on _ _ _ c.args.self.now.stands.0) (grind arith)

pub returns-then-not-among_attributes : goal.returns-then-not-among_attributes
returns-then-not-among_attributes g c =
    rw (goes_on _ _ _ c.args.self.now.stands.0, good_attribute _ _ c.requires.1 c.requires.2) (grind arith)

pub bounds-self-name_at : goal.bounds-self-name_at
bounds-self-name_at g c =
    let room = sym c.is_unlisted.ensures ∙ c.if-is_unlisted.false in
    omega (arith, listed _ _ _ room (truly c.requires.2))

pub returns : goal.returns
returns g c =
    let s = c.args.self.now in
    let stands = sym c.among_attributes.ensures ∙ c.if-not-among_attributes.false in
    rw (goes_on _ _ _ s.stands.0, good_attribute _ _ c.requires.1 c.requires.2, again_here _ _ _ _ _ s.knows s.stands.0 c.requires.0 c.requires.1 c.requires.2 stands)
    (grind arith)

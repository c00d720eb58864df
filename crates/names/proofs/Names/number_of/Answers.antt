-- The answer of `names::Names::number_of`: what a search finds where all lines are indexed is the number.
use Rattle.names.proofs.Matching.{number_found}
use Rattle.names.proofs.Names.number_of.Goals as goal

pub returns : goal.returns
returns c =
    let x = c.args.self.now.indexed in
    number_found _ _ _ _ _ _ x (rw x.all.counted at c.find.ensures)

-- `names::Part::find`: the lines behind the one that is tried are not the word. The measure is its number, which falls along the chain.
use Rattle.std.proofs.Common.{length, get_or}
use Rattle.names.proofs.Chains.{Searching}
use Rattle.names.proofs.Part.find.Given as goal

abbrev pub invariant-loop-number : goal.invariant-loop-number
invariant-loop-number l = Searching l.self.list.now (get_or l.self.nexts.now 0 0) (length l.self.heads.now) l.word l.number

abbrev pub decreases-loop-number : goal.decreases-loop-number
decreases-loop-number l = l.number

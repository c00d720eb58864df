-- The answers of `names::hash`: the loop goes on by one byte of the word.
use Rattle.std.proofs.Common.{◌≡◌, sym, ◌∙◌, arith}
use native.Mathlib.Nat.{mod-lt}
use Rattle.names.specs.Index.{hash_from, hash_of}
use Rattle.names.proofs.Words.{hash_at, hash_end}
use Rattle.names.proofs.hash.Goals as goal

pub loop-b-preserved : goal.loop-b-preserved
loop-b-preserved c = (omega arith, sym (hash_at c.args.word.now c.loop-b.b-index (omega arith) _) ∙ c.loop-b.invariant.1)

pub returns : goal.returns
unfolding hash_of
returns c =
    let e : c.loop-b.h ≡ hash_from 0 c.args.word.now = sym (hash_end c.args.word.now c.loop-b.b-index (omega arith) _) ∙ c.loop-b.invariant.1 in
    (rw e, mod-lt c.loop-b.h c.requires)

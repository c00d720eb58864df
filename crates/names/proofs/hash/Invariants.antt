-- `names::hash`: the bytes from b on, behind those whose hash is h, have the hash of the word.
use Rattle.std.proofs.Common.{◌≡◌, ◌<◌, drop}
use Rattle.names.specs.Index.{hash_from}
use Rattle.names.proofs.hash.Given as goal

abbrev pub invariant-loop-b : goal.invariant-loop-b
invariant-loop-b l = (l.h < 65536) × (hash_from l.h (drop l.b-index l.word) ≡ hash_from 0 l.word)

-- Laws of where a value stands among literals, entry by entry.
-- Assumes nothing.
use Rattle.std.proofs.Common.{◌+◌, arith, ◌≡◌, refl, true, false, List, [], ◌∷◌}
use lib.Ieee.{Float}
use lib.Ieee as Ieee
use Rattle.text.specs.Reading.{index_of}

pub index_none : (x : Float) → index_of [] x ≡ 0
unfolding index_of
index_none x = refl

-- it is the first
pub index_here : (v x : Float) (vs : List Float) → Ieee.eq v x ≡ true → index_of (v ∷ vs) x ≡ 0
unfolding index_of
index_here v x vs e = rw e

-- it isn't
pub index_behind : (v x : Float) (vs : List Float) → Ieee.eq v x ≡ false → index_of (v ∷ vs) x ≡ index_of vs x + 1
unfolding index_of
index_behind v x vs e = rw e (omega arith)

-- That no row's parent stands after it has one proof at most, so it may be a ghost field.
-- Assumes nothing.
use Rattle.std.specs.Prelude.{ℕ, List}
use Rattle.std.specs.Coded.{Π_prop, le_prop}
use Rattle.reach.specs.Reach.{Rooted}

pub Rooted-prop : (t : List ℕ) → IsProp (Rooted t)
unfolding Rooted
Rooted-prop t = Π_prop (λ y. Π_prop (λ l. le_prop))

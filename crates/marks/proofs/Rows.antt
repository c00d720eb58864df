-- The marks of the rows, which come first in a set.
-- Assumes nothing.
use Rattle.std.proofs.Common.{◌≡◌, ◌∙◌, sym, ℕ, ◌<◌, ◌≤◌, Bool, false, List, length, get_or, take, arith}
use Rattle.std.proofs.lemmas.List.{get_or-take, length-take-le}

-- a mark of the rows is a mark of the set
pub mark_of_row : (marks : List Bool) (n y : ℕ) (b : Bool) → n ≤ length marks → y < length (take n marks) → get_or (take n marks) y false ≡ b → get_or marks y false ≡ b
mark_of_row marks n y b room l e =
    let low : y < n = omega (arith, length-take-le n marks room) in
    sym (get_or-take n marks y false low) ∙ e

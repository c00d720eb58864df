-- What tokens that change the desk alone do to it, by the numbers that the code has; and the room that the rows have.
-- Assumes nothing: these are definitions.
use Rattle.std.specs.Prelude.{ℕ, ◌≤◌, ◌≡◌, Bool, cond, ◌||◌, ◌&&◌, List, length, eqb, leb}
use Rattle.text.specs.declared.Sort.TheVariants.{Numeral}
use Rattle.text.specs.Machine.{has, beginning, signing, ending}
use Rattle.text.specs.Composing.{Desk, put, truthful, strength_of, settled, with_pen, push, open_group, open_truth, close_round, close_square}
use Rattle.compose.specs.declared.Bench.{Bench}
use Rattle.compose.specs.Standing.{mode_of, row_room, load}

-- the load is at most k, and the rows have their room; the frames and brackets are arrays, whose types have theirs
pub record Roomy (k : ℕ) (b : Bench) (rows : List ℕ) : Type 0 where
  pub light : load b ≤ k
  pub rows_room : length rows ≡ row_room

-- `(`, `)` and `]`
unfoldable pub opened : ℕ → Desk → Desk
opened mode d = cond (has beginning (mode_of mode)) (open_group d) d

unfoldable pub closed : ℕ → Desk → Desk
closed mode d = cond (has ending (mode_of mode)) (close_round (settled 1 d)) d

unfoldable pub squared : Desk → Desk
squared d = close_square (settled 1 d)

-- the name of a function, by its number
unfoldable pub called : ℕ → Desk → Desk
called f d =
    cond (eqb f 0) (with_pen (put 2 0 0 0 0 Numeral) d)
    (cond (eqb f 1) (with_pen (put 3 0 0 0 0 Numeral) d)
    (cond (eqb f 2) (push 21 0 0 d)
    (cond (eqb f 3) (push 18 0 0 d)
    (cond (eqb f 4) (open_truth d) d))))

-- what an operator that binds so wants on its left
unfoldable pub wanted : ℕ → Desk → Desk
wanted k d = with_pen (λ p. cond (leb k 2) (truthful p) p) d

-- an operator, and `-`
unfoldable pub operated : ℕ → Desk → Desk
operated op d = push op 0 0 (wanted (strength_of op) (settled (strength_of op) d))

unfoldable pub signed : ℕ → Desk → Desk
signed mode d = cond (has signing (mode_of mode)) (push 9 0 0 d) (operated 5 d)

-- the classes of these tokens: all but those of steps, and numbers
unfoldable pub of_desk : ℕ → Bool
of_desk kind = leb kind 3 || (eqb kind 7 || (eqb kind 8 || (eqb kind 12 || (eqb kind 14 || (eqb kind 16 || leb 19 kind)))))

-- the classes of the tokens of steps, but for `/` and `//`
unfoldable pub of_step : ℕ → Bool
of_step kind = eqb kind 4 || (eqb kind 5 || (eqb kind 6 || (eqb kind 13 || (leb 9 kind && leb kind 11))))

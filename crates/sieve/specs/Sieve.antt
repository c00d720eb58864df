-- Truths decided for all rows of a set at once, as a state for each row. At a level of nesting the rows in question have one
-- state, `active`, and all others a lower one; deciding leaves the state where the truth holds and makes it one more where it
-- does not.
-- Assumes nothing: these are definitions.
use Rattle.std.specs.Prelude.{ℕ, ◌+◌, ◌<◌, ◌≤◌, ◌≡◌, Bool, false, ◌&&◌, cond, List, ltb, eqb, get_or}

-- the state of row y
abbrev pub state : List ℕ → ℕ → ℕ
state states y = get_or states y 0

-- what becomes of a state: `from` becomes `to`
unfoldable pub recast_of : ℕ → ℕ → ℕ → ℕ
recast_of from to s = cond (eqb s from) to s

-- the two states from active are exchanged
unfoldable pub exchanged_of : ℕ → ℕ → ℕ
exchanged_of active s = cond (eqb s active) (active + 1) (cond (eqb s (active + 1)) active s)

-- the two states of the level above become those of active's own
unfoldable pub lowered_of : ℕ → ℕ → ℕ
lowered_of active s = cond (eqb s (active + 2)) active (cond (eqb s (active + 3)) (active + 1) s)

-- an active state goes on where the row passes, and becomes one more where it does not
unfoldable pub sieved_of : Bool → ℕ → ℕ → ℕ
sieved_of passes active s = cond (eqb s active) (cond passes active (active + 1)) s

-- the first n states are what g makes of them, by their row
unfoldable pub Became : (ℕ → ℕ → ℕ) → ℕ → List ℕ → List ℕ → Type 0
Became g n entry exit = (y : ℕ) → y < n → state exit y ≡ g y (state entry y)

-- of the first n states the first i are what g makes of them, and the others are as they were
unfoldable pub BecameTo : (ℕ → ℕ → ℕ) → ℕ → ℕ → List ℕ → List ℕ → Type 0
BecameTo g i n entry now = (y : ℕ) → y < n → state now y ≡ cond (ltb y i) (g y (state entry y)) (state entry y)

-- each of the first n states that is `from` became `to`, and no other changed
unfoldable pub Recast : ℕ → ℕ → ℕ → List ℕ → List ℕ → Type 0
Recast n from to = Became (λ y. recast_of from to) n

-- active and active + 1 are exchanged among the first n states
unfoldable pub Exchanged : ℕ → ℕ → List ℕ → List ℕ → Type 0
Exchanged n active = Became (λ y. exchanged_of active) n

-- the level above active's is lowered to it among the first n states
unfoldable pub Lowered : ℕ → ℕ → List ℕ → List ℕ → Type 0
Lowered n active = Became (λ y. lowered_of active) n

-- f is decided for the active ones of the first n rows
unfoldable pub Sieved : (ℕ → Bool) → ℕ → ℕ → List ℕ → List ℕ → Type 0
Sieved f active n = Became (λ y. sieved_of (f y) active) n

-- f is decided for the active ones of the first i rows
unfoldable pub SievedTo : (ℕ → Bool) → ℕ → ℕ → ℕ → List ℕ → List ℕ → Type 0
SievedTo f active i n = BecameTo (λ y. sieved_of (f y) active) i n

-- the first n states are at most top
unfoldable pub Bounded : ℕ → ℕ → List ℕ → Type 0
Bounded n top states = (y : ℕ) → y < n → state states y ≤ top

-- of the first n rows those stay marked that are active
unfoldable pub Retained : ℕ → ℕ → List ℕ → List Bool → List Bool → Type 0
Retained n active states entry exit = (y : ℕ) → y < n → get_or exit y false ≡ (get_or entry y false && eqb (state states y) active)

-- Lists of numbers, as the definitions use them.
-- Assumes nothing: these are definitions.
use Rattle.std.specs.Prelude.{ℕ, zero, suc, ◌+◌, Bool, false, ◌||◌, cond, List, [], ◌∷◌, ◌++◌, ltb, eqb}

-- 0, 1, .. n - 1
unfoldable pub up_to : ℕ → List ℕ
up_to zero = []
up_to (suc n) = up_to n ++ (n ∷ [])

-- n - 1, .. 1, 0
unfoldable pub down_from : ℕ → List ℕ
down_from zero = []
down_from (suc n) = n ∷ down_from n

-- the members at which f holds, in their order
unfoldable pub keep : (ℕ → Bool) → List ℕ → List ℕ
keep f [] = []
keep f (x ∷ xs) = cond (f x) (x ∷ keep f xs) (keep f xs)

-- does f hold at some member?
unfoldable pub some : (ℕ → Bool) → List ℕ → Bool
some f [] = false
some f (x ∷ xs) = f x || some f xs

-- is y a member?
abbrev pub has : List ℕ → ℕ → Bool
has l y = some (eqb y) l

-- the place of y in a list, counted from i; 0 where it is not there
unfoldable pub place_from : ℕ → List ℕ → ℕ → ℕ
place_from i [] y = 0
place_from i (x ∷ xs) y = cond (eqb y x) i (place_from (i + 1) xs y)

-- the lowest number below n at which f holds, and n where there is none
unfoldable pub lowest : (ℕ → Bool) → ℕ → ℕ
lowest f zero = 0
lowest f (suc n) =
    let r : ℕ = lowest f n in
    cond (ltb r n) r (cond (f n) n (suc n))

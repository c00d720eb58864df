-- The subtree view (document 01, "Numbers given back"): the entries from v to v + size(v), as a part of the caller's list.
-- Assumes nothing: these are definitions.
use Rattle.std.specs.Prelude.{ℕ, ◌-◌, Bool, ◌&&◌, ◌||◌, not, cond, List, [], length, get_or, take, drop, leb, ltb, eqb}
use Rattle.meaning.specs.Lists.{up_to, some, lowest}
use Rattle.meaning.specs.Table.{accepted, rows, end}
use Rattle.meaning.specs.declared.Part.{Part}

-- is entry i the first, or above the entry before it, and below the row count?
unfoldable pub entry_fits : List ℕ → List ℕ → ℕ → Bool
entry_fits t l i = (eqb i 0 || ltb (get_or l (i - 1) 0) (get_or l i 0)) && ltb (get_or l i 0) (rows t)

-- is the list strictly ascending with entries below the row count?
unfoldable pub ascending : List ℕ → List ℕ → Bool
ascending t l = not (some (λ i. not (entry_fits t l i)) (up_to (length l)))

-- may a part be handed back at all?
unfoldable pub viewable : List ℕ → List ℕ → ℕ → Bool
viewable t l v = accepted t && ltb v (rows t) && ascending t l

-- where the part begins: the lowest index with an entry of v or more
unfoldable pub begins : List ℕ → ℕ → ℕ
begins l v = lowest (λ i. leb v (get_or l i 0)) (length l)

-- where it ends: the lowest index with an entry above v + size(v)
unfoldable pub ends : List ℕ → List ℕ → ℕ → ℕ
ends t l v = lowest (λ i. ltb (end t v) (get_or l i 0)) (length l)

-- the part: empty if the table is not accepted, v is outside or the list is not as said
unfoldable pub viewed : List ℕ → List ℕ → ℕ → List ℕ
viewed t l v = cond (viewable t l v) (take (ends t l v - begins l v) (drop (begins l v) l)) []

-- the part that begins at b and has n entries
abbrev pub part_from : ℕ → ℕ → Part
part_from b n = record { begin = b; length = n }

-- where the part begins and how many entries it has: 0 and 0 for an empty one
unfoldable pub part_of : List ℕ → List ℕ → ℕ → Part
part_of t l v = cond (viewable t l v && ltb (begins l v) (ends t l v)) (part_from (begins l v) (ends t l v - begins l v)) (part_from 0 0)

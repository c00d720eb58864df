-- The index of a list of names: lines as places of bytes, chains of the lines of one hash, and what the lent slices hold. Nobody has to
-- believe any of it: what the public functions promise of a list is said in Names.antt.
-- Assumes nothing: these are definitions.
use Rattle.std.specs.Prelude.{ℕ, zero, suc, ◌+◌, ◌-◌, ◌*◌, ◌/◌, ◌%◌, ◌<◌, ◌≤◌, min, ◌≡◌, true, false, cond, List, [], ◌∷◌, length, get_or, take, drop, eqb, Option, Some, None}
use Rattle.names.specs.Names.{same, most_names, names_of, bad_names}

-- ---- lines as places of bytes

-- how many bytes stand before the first line feed, or before the end
unfoldable pub line_length : List ℕ → ℕ
line_length [] = 0
line_length (b ∷ s) = cond (eqb b 10) 0 (suc (line_length s))

-- where line i begins, from 0, where so many lines are ended
unfoldable pub line_start : List ℕ → ℕ → ℕ
line_start list zero = 0
line_start list (suc i) = line_start list i + line_length (drop (line_start list i) list) + 1

-- the bytes of line i
unfoldable pub line_at : List ℕ → ℕ → List ℕ
line_at list i = take (line_length (drop (line_start list i) list)) (drop (line_start list i) list)

-- ---- hashes

-- the hash of bytes behind others whose hash is h
unfoldable pub hash_from : ℕ → List ℕ → ℕ
hash_from h [] = h
hash_from h (b ∷ w) = hash_from ((h * 31 + b) % 65536) w

-- the hash of a word, below m
unfoldable pub hash_of : ℕ → List ℕ → ℕ
hash_of m w = hash_from 0 w % m

-- the hash of line i
unfoldable pub line_hash : List ℕ → ℕ → ℕ → ℕ
line_hash list m i = hash_of m (line_at list i)

-- ---- chains: lines have numbers from 1

-- the last of the first n lines that has hash h, and 0 where none has
unfoldable pub last_of : (ℕ → ℕ) → ℕ → ℕ → ℕ
last_of hash zero h = 0
last_of hash (suc n) h = cond (eqb (hash n) h) (suc n) (last_of hash n h)

-- each hash has its last line
abbrev pub Heads : (ℕ → ℕ) → ℕ → List ℕ → Type 0
Heads hash n heads = (h : ℕ) → h < length heads → get_or heads h 0 ≡ last_of hash n h

-- each line has the line before it of the same hash
abbrev pub Nexts : (ℕ → ℕ) → ℕ → List ℕ → Type 0
Nexts hash n nexts = (i : ℕ) → i < n → get_or nexts (suc i) 0 ≡ last_of hash i (hash i)

-- each 8th line has its first byte
abbrev pub Starts : List ℕ → ℕ → List ℕ → Type 0
Starts list n starts = (k : ℕ) → k * 8 < n → get_or starts k 0 ≡ line_start list (k * 8)

-- ---- what the slices hold

-- the slices, of these lengths, have room for the lines of a list: a good one takes two bytes or more, and there are at most 65,535
pub record Roomy (list : List ℕ) (heads nexts starts : ℕ) : Type 0 where
  pub hashes : 0 < heads
  pub chained : min most_names (length list / 2) < nexts
  pub placed : min most_names (length list / 2) ≤ starts * 8

-- the first n lines are indexed, and they are ended; the entry at 0, where no line is, has their number
pub record IndexedTo (list : List ℕ) (n : ℕ) (heads nexts starts : List ℕ) : Type 0 where
  pub ended : line_start list n ≤ length list
  pub counted : get_or nexts 0 0 ≡ n
  pub hashes : 0 < length heads
  pub chained : n < length nexts
  pub placed : n ≤ length starts * 8
  pub lasts : Heads (line_hash list (length heads)) n heads
  pub befores : Nexts (line_hash list (length heads)) n nexts
  pub begins : Starts list n starts

-- the list is not refused, and all its lines are indexed
pub record Indexed (list heads nexts starts : List ℕ) : Type 0 where
  pub fine : bad_names (names_of list) ≡ false
  pub all : IndexedTo list (length (names_of list)) heads nexts starts

-- a line before n that is the word, as its number from 1; none only where there is none
unfoldable pub Found : List ℕ → ℕ → List ℕ → Option ℕ → Type 0
Found list n w None = (i : ℕ) → i < n → same (line_at list i) w ≡ false
Found list n w (Some r) = (0 < r) × (r ≤ n) × (same (line_at list (r - 1)) w ≡ true)

-- where the search of a line's first byte begins
pub record Placed (list : List ℕ) (i : ℕ) (starts : List ℕ) : Type 0 where
  pub ended : line_start list (suc i) ≤ length list
  pub inside : i / 8 < length starts
  pub begins : get_or starts (i / 8) 0 ≡ line_start list (i / 8 * 8)

-- a line begins and ends at these bytes, and there is one
pub record LineFrom (list : List ℕ) (i at end : ℕ) : Type 0 where
  pub begins : at ≡ line_start list i
  pub ends : end ≡ at + line_length (drop at list)
  pub inside : at < length list

-- a line that is ended has room in slices of these lengths
pub record HasRoom (list : List ℕ) (i nexts starts : ℕ) : Type 0 where
  pub few : i < most_names
  pub ended : line_start list (suc i) ≤ length list
  pub chained : suc i < nexts
  pub placed : i < starts * 8

-- A row is written behind the candidates that were found, and counted with them if it is one.
-- Assumes nothing.
use Rattle.std.proofs.Common.{◌≡◌, ◌+◌, ◌<◌, ◌≤◌, ℕ, Bool, true, false, List, length, get_or, arith}
use mir.Val.{bool_byte}
use lib.ListN.{set}
use Rattle.std.proofs.lemmas.List.{take-set}
use Rattle.meaning.proofs.Filters.{Chosen, chosen_skip, chosen_more}
use Rattle.meaning.proofs.Ranges.{Ranged, ranged_skip, ranged_more}

-- at most one row is counted
pub counted_once : (b : Bool) → bool_byte b ≤ 1
counted_once true = omega arith
counted_once false = omega arith

-- what is written behind the first m leaves them what passes of the first i
chosen_kept : (p : ℕ → Bool) (from list : List ℕ) (m i v : ℕ) → Chosen p from list m i → Chosen p from (set list m v) m i
unfolding Chosen
chosen_kept p from list m i v h = rw (take-set list m v) h

-- the next of a list is written, and counted if it passes
pub chosen_next : (p : ℕ → Bool) (from list : List ℕ) (m i v : ℕ) (b : Bool) → Chosen p from list m i → i < length from → m < length list → v ≡ get_or from i 0 → p (get_or from i 0) ≡ b → Chosen p from (set list m v) (m + bool_byte b) (i + 1)
chosen_next p from list m i v true h a k at e = chosen_more p from list m i v h a k at e
chosen_next p from list m i v false h a k at e = let same : m + 0 ≡ m = omega arith in rw same (chosen_skip p from (set list m v) m i (chosen_kept p from list m i v h) a e)

-- the same of a range
ranged_kept : (p : ℕ → Bool) (n f t : ℕ) (list : List ℕ) (m y v : ℕ) → Ranged p n f t list m y → Ranged p n f t (set list m v) m y
unfolding Ranged
ranged_kept p n f t list m y v h = chosen_kept p _ list m _ v h

-- the next of a range is written, and counted if it passes
pub ranged_next : (p : ℕ → Bool) (n f t : ℕ) (list : List ℕ) (m y : ℕ) (b : Bool) → Ranged p n f t list m y → t ≤ n → f ≤ y → y < t → m < length list → p y ≡ b → Ranged p n f t (set list m y) (m + bool_byte b) (y + 1)
ranged_next p n f t list m y true h u k l r e = ranged_more p n f t list m y h u k l r e
ranged_next p n f t list m y false h u k l r e = let same : m + 0 ≡ m = omega arith in rw same (ranged_skip p n f t (set list m y) m y (ranged_kept p n f t list m y y h) u k l e)

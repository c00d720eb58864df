-- Laws of the index: which slices have room for it, and what they hold with one line more.
-- Assumes nothing.
use Prim.Native.Nat.{ℕ, suc, ◌*◌, ◌/◌, ◌%◌, ◌<◌}
use native.Mathlib.Omega.{arith}
use mathlib.Core.Path.{◌≡◌, refl, sym, ap, subst, ◌∙◌}
use mathlib.Core.Logic.{⊎_elim}
use mathlib.Core.Bool.{Bool, true, false, cond}
use mathlib.Core.List.{List}
use lib.ListN.{length, get_or, set, replicate, length-set, length-replicate}
use lib.Seq.{get_or-set_same, get_or-set_other}
use lib.Dec.{eqb}
use borrow.Author.Tests.{eq-eqb, ne_eqb, eqb-true, eqb-false}
use Rattle.meaning.proofs.Bools.{eq_or_ne}
use Rattle.meaning.proofs.Lists.{one_value}
use Rattle.names.specs.Index.{line_start, line_hash, last_of, Heads, Nexts, Starts, Roomy, IndexedTo, HasRoom}

-- ---- rooms

-- room for the lines of every list, and for those of a short one
pub room_for_all : (list : List ℕ) → Roomy list 65536 65536 8192
room_for_all list = record { hashes = omega arith; chained = omega arith; placed = omega arith }

pub room_for_short : (list : List ℕ) → length list < 512 → Roomy list 256 256 32
room_for_short list h = record { hashes = omega arith; chained = omega arith; placed = omega arith }

-- ---- one line more

module _ (hash : ℕ → ℕ) (n : ℕ) where
  heads_more : (heads : List ℕ) (slot : ℕ) → slot ≡ hash n → Heads hash n heads → Heads hash (suc n) (set heads slot (suc n))
  unfolding last_of
  heads_more heads slot e lasts h l =
      let k : h < length heads = rw length-set at l in
      ⊎_elim
      (λ (d : h ≡ slot). rw (d, eq-eqb (hash n) slot (sym e)) (get_or-set_same heads slot (suc n) 0 (rw d at k)))
      (λ (d : h ≡ slot → ⊥). rw (ne_eqb (hash n) h (λ p. d (sym p ∙ sym e))) (get_or-set_other heads slot h (suc n) 0 d ∙ lasts h k))
      (eq_or_ne h slot)

  nexts_more : (nexts : List ℕ) (v : ℕ) → suc n < length nexts → v ≡ last_of hash n (hash n) → Nexts hash n nexts
      → Nexts hash (suc n) (set (set nexts (suc n) v) 0 (suc n))
  nexts_more nexts v room e befores i l =
      get_or-set_other (set nexts (suc n) v) 0 (suc i) (suc n) 0 (λ p. omega arith)
      ∙ ⊎_elim
      (λ (d : i ≡ n). rw d (get_or-set_same nexts (suc n) v 0 room ∙ e))
      (λ (d : i ≡ n → ⊥). get_or-set_other nexts (suc n) (suc i) v 0 (λ p. d (omega arith)) ∙ befores i (omega arith))
      (eq_or_ne i n)

starts_more : (list : List ℕ) (n : ℕ) (starts : List ℕ) → n < length starts * 8 → Starts list n starts
    → Starts list (suc n) (cond (eqb (n % 8) 0) (set starts (n / 8) (line_start list n)) starts)
starts_more list n starts room begins k l = by (eqb (n % 8) 0) refl
  where
    by : (t : Bool) → eqb (n % 8) 0 ≡ t → get_or (cond t (set starts (n / 8) (line_start list n)) starts) k 0 ≡ line_start list (k * 8)
    by true e =
        let z : n % 8 ≡ 0 = eqb-true (n % 8) 0 e in
        let whole : n / 8 * 8 ≡ n = omega arith in
        ⊎_elim
        (λ (d : k ≡ n / 8). rw (d, whole) (get_or-set_same starts (n / 8) (line_start list n) 0 (omega arith)))
        (λ (d : k ≡ n / 8 → ⊥). get_or-set_other starts (n / 8) k (line_start list n) 0 d ∙ begins k (omega arith))
        (eq_or_ne k (n / 8))
    by false e = let z : n % 8 ≡ 0 → ⊥ = eqb-false (n % 8) 0 e in begins k (omega arith)

noted_length : (t : Bool) (starts : List ℕ) (k at : ℕ) → length (cond t (set starts k at) starts) ≡ length starts
noted_length true starts k at = length-set starts k at
noted_length false starts k at = refl

-- no line is indexed
pub indexed_none : (list heads nexts starts : List ℕ) → 0 < length heads → 0 < length nexts
    → IndexedTo list 0 (replicate (length heads) 0) (set nexts 0 0) starts
unfolding line_start last_of
indexed_none list heads nexts starts h k = record {
  ended = omega arith;
  counted = get_or-set_same nexts 0 0 0 k;
  hashes = rw length-replicate h;
  chained = rw length-set k;
  placed = omega arith;
  lasts = λ j l. one_value (length heads) j 0;
  befores = λ i l. absurd (omega arith);
  begins = λ i l. absurd (omega arith);
}

-- the last line of a hash
head_at : (list : List ℕ) (n : ℕ) (heads nexts starts : List ℕ) → IndexedTo list n heads nexts starts → (h : ℕ) → h < length heads
    → get_or heads h 0 ≡ last_of (line_hash list (length heads)) n h
head_at list n heads nexts starts x h l = x.lasts h l

-- and one more
pub indexed_more : (list : List ℕ) (n : ℕ) (heads nexts starts : List ℕ) (slot at : ℕ)
    → IndexedTo list n heads nexts starts → HasRoom list n (length nexts) (length starts)
    → slot ≡ line_hash list (length heads) n → slot < length heads → at ≡ line_start list n
    → IndexedTo list (suc n) (set heads slot (suc n)) (set (set nexts (suc n) (get_or heads slot 0)) 0 (suc n))
    (cond (eqb (n % 8) 0) (set starts (n / 8) at) starts)
indexed_more list n heads nexts starts slot at x room e inside p =
    let hash = line_hash list (length heads) in
    let v : get_or heads slot 0 ≡ last_of hash n (hash n) = head_at list n heads nexts starts x slot inside ∙ ap (last_of hash n) e in
    let long : length (set heads slot (suc n)) ≡ length heads = length-set heads slot (suc n) in
    let chain : length (set (set nexts (suc n) (get_or heads slot 0)) 0 (suc n)) ≡ length nexts =
    length-set (set nexts (suc n) (get_or heads slot 0)) 0 (suc n) ∙ length-set nexts (suc n) (get_or heads slot 0) in
    let c = room.chained in
    record {
      ended = room.ended;
      counted = get_or-set_same (set nexts (suc n) (get_or heads slot 0)) 0 (suc n) 0 (rw length-set (omega arith));
      hashes = rw long x.hashes;
      chained = rw chain c;
      placed = rw (noted_length (eqb (n % 8) 0) starts (n / 8) at) room.placed;
      lasts = subst (λ m. Heads (line_hash list m) (suc n) (set heads slot (suc n))) (sym long) (heads_more hash n heads slot e x.lasts);
      befores = rw long (nexts_more hash n nexts (get_or heads slot 0) c v x.befores);
      begins = rw p (starts_more list n starts room.placed x.begins);
    }

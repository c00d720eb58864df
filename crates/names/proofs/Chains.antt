-- Laws of chains: the last line of a hash, and a search along the lines of one hash, from the last one back.
-- Assumes nothing.
use Prim.Native.Nat.{ℕ, zero, suc, ◌-◌, ◌/◌, ◌<◌, ◌≤◌}
use native.Mathlib.Omega.{arith}
use mathlib.Core.Path.{◌≡◌, refl, sym, ap, ◌∙◌}
use mathlib.Core.Logic.{⊎_elim}
use mathlib.Core.Bool.{Bool, true, false, cond}
use mathlib.Core.List.{List}
use lib.ListN.{length, get_or}
use Rattle.std.specs.Prelude.{Some, None}
use lib.Dec.{eqb}
use borrow.Author.Tests.{eqb-true, eqb-false}
use Rattle.meaning.proofs.Bools.{lt_or_ge, eq_or_ne}
use Rattle.names.specs.Names.{same}
use Rattle.names.specs.Index.{line_at, hash_of, line_hash, last_of, IndexedTo, Found, Placed}
use Rattle.names.proofs.Words.{differ}
use Rattle.names.proofs.Lines.{starts_rise}

-- ---- the last line of a hash

module _ (hash : ℕ → ℕ) where
  pub last_within : (n h : ℕ) → last_of hash n h ≤ n
  unfolding last_of
  last_within zero h = omega arith
  last_within (suc n) h = by (eqb (hash n) h) (last_within n h)
    where
      by : (t : Bool) → last_of hash n h ≤ n → cond t (suc n) (last_of hash n h) ≤ suc n
      by true l = omega arith
      by false l = omega arith

  -- it is the last of the lines up to itself
  pub last_last : (n h : ℕ) → last_of hash (last_of hash n h) h ≡ last_of hash n h
  unfolding last_of
  last_last zero h = refl
  last_last (suc n) h = by (eqb (hash n) h) refl (last_last n h)
    where
      by : (t : Bool) → eqb (hash n) h ≡ t → last_of hash (last_of hash n h) h ≡ last_of hash n h
          → last_of hash (cond t (suc n) (last_of hash n h)) h ≡ cond t (suc n) (last_of hash n h)
      by true e more = rw e
      by false e more = more

  -- a line behind it has another hash
  pub last_none : (n h i : ℕ) → last_of hash n h ≤ i → i < n → hash i ≡ h → ⊥
  unfolding last_of
  last_none zero h i l k e = omega arith
  last_none (suc n) h i l k e = by (eqb (hash n) h) refl l (last_none n h i)
    where
      by : (t : Bool) → eqb (hash n) h ≡ t → cond t (suc n) (last_of hash n h) ≤ i → (last_of hash n h ≤ i → i < n → hash i ≡ h → ⊥) → ⊥
      by true d l more = omega arith
      by false d l more =
          ⊎_elim
          (λ (b : i < n). more l b e)
          (λ (b : n ≤ i). let p : i ≡ n = omega arith in eqb-false (hash n) h d (ap hash (sym p) ∙ e))
          (lt_or_ge i n)

  -- and it has that hash
  pub last_hash : (n h : ℕ) → last_of hash (suc n) h ≡ suc n → hash n ≡ h
  unfolding last_of
  last_hash n h e = by (eqb (hash n) h) refl e
    where
      by : (t : Bool) → eqb (hash n) h ≡ t → cond t (suc n) (last_of hash n h) ≡ suc n → hash n ≡ h
      by true d k = eqb-true (hash n) h d
      by false d k = absurd (omega (arith, last_within n h))

-- ---- a search

-- the lines behind the one of this number are not the word, and it has the word's hash
pub record Searching (list : List ℕ) (n m : ℕ) (w : List ℕ) (number : ℕ) : Type 0 where
  pub within : number ≤ n
  pub hashed : last_of (line_hash list m) number (hash_of m w) ≡ number
  pub passed : (i : ℕ) → number ≤ i → i < n → same (line_at list i) w ≡ false

-- a line of another hash is another word
other_hash : (list : List ℕ) (m i : ℕ) (w : List ℕ) → (line_hash list m i ≡ hash_of m w → ⊥) → same (line_at list i) w ≡ false
unfolding line_hash
other_hash list m i w d = differ (line_at list i) w (λ e. d (ap (hash_of m) e))

module _ (list : List ℕ) (n : ℕ) (heads nexts starts : List ℕ) (indexed : IndexedTo list n heads nexts starts) where
  abbrev m : ℕ
  m = length heads

  pub placed : (i : ℕ) → i < n → Placed list i starts
  placed i h = record {
    ended = omega (arith, starts_rise list (suc i) n h, indexed.ended);
    inside = omega (arith, indexed.placed);
    begins = indexed.begins (i / 8) (omega arith);
  }

  module _ (w : List ℕ) where
    pub searching_starts : (slot : ℕ) → slot ≡ hash_of m w → slot < length heads → Searching list n m w (get_or heads slot 0)
    searching_starts slot e h =
        let l : get_or heads slot 0 ≡ last_of (line_hash list m) n (hash_of m w) = indexed.lasts slot h ∙ ap (last_of (line_hash list m) n) e in
        record {
          within = omega (arith, last_within (line_hash list m) n (hash_of m w));
          hashed = rw l (last_last (line_hash list m) n (hash_of m w));
          passed = λ i a b. other_hash list m i w (last_none (line_hash list m) n (hash_of m w) i (omega arith) b);
        }

    -- the line before it of the same hash is the next to try
    pub searching_more : (number : ℕ) → 0 < number → Searching list n m w number → same (line_at list (number - 1)) w ≡ false
        → (get_or nexts number 0 < number) × Searching list n m w (get_or nexts number 0)
    searching_more zero p s f = absurd (omega arith)
    searching_more (suc k) p s f =
        let z : suc k - 1 ≡ k = omega arith in
        let f' = line_hash list m in
        let h = last_hash f' k (hash_of m w) s.hashed in
        let e : get_or nexts (suc k) 0 ≡ last_of f' k (hash_of m w) = indexed.befores k (omega (arith, s.within)) ∙ ap (last_of f' k) h in
        let l : last_of f' k (hash_of m w) ≤ k = last_within f' k (hash_of m w) in
        let back : (i : ℕ) → get_or nexts (suc k) 0 ≤ i → i < n → same (line_at list i) w ≡ false =
        λ i a b. ⊎_elim
        (λ (c : i < k). other_hash list m i w (last_none f' k (hash_of m w) i (omega arith) c))
        (λ (c : k ≤ i). ⊎_elim
        (λ (d : i ≡ k). rw d (rw z at f))
        (λ (d : i ≡ k → ⊥). s.passed i (omega arith) b)
        (eq_or_ne i k))
        (lt_or_ge i k) in
        (omega arith, record { within = omega (arith, s.within); hashed = rw e (last_last f' k (hash_of m w)); passed = back })

    pub searching_found : (number : ℕ) → 0 < number → Searching list n m w number → same (line_at list (number - 1)) w ≡ true
        → Found list n w (Some number)
    unfolding Found
    searching_found number p s e = (p, s.within, e)

    pub searching_none : Searching list n m w 0 → Found list n w None
    unfolding Found
    searching_none s i h = s.passed i (omega arith) h

-- Laws of what is laid into a slice: its length stays, what is laid behind something is laid with it, nothing changes nothing, one entry is a
-- store.
-- Assumes nothing.
use Prim.Native.Nat.{ℕ, suc, ◌+◌, ◌<◌, ◌≤◌}
use native.Mathlib.Omega.{arith}
use mathlib.Core.Path.{◌≡◌, sym, ◌∙◌}
use mathlib.Core.List.{List, [], ◌∷◌, ◌++◌, append_assoc, append-nil}
use lib.ListN.{length, take, drop, set, length-append, length-drop, take-append-drop}
use lib.Seq.{append_snoc, length-take-le, set_split, take-set-le, take_at, drop_at, drop-drop}
use Rattle.decimal.specs.Decimal.{laid}

module _ (out : List ℕ) (i : ℕ) (s : List ℕ) where
  -- what stands before and what is laid
  abbrev front : List ℕ
  front = take i out ++ s

  front_length : i ≤ length out → length front ≡ i + length s
  front_length h = rw (length-append, length-take-le i out h)

  pub length_laid : i + length s ≤ length out → length (laid out i s) ≡ length out
  length_laid h = rw (length-append, front_length (omega arith), length-drop) (omega arith)

  pub take_laid : i ≤ length out → take (i + length s) (laid out i s) ≡ take i out ++ s
  take_laid h = take_at front _ (i + length s) (front_length h)

  pub drop_laid : i ≤ length out → drop (i + length s) (laid out i s) ≡ drop (i + length s) out
  drop_laid h = drop_at front _ (i + length s) (front_length h)

  -- behind what was laid
  pub laid_laid : (more : List ℕ) → i + length s + length more ≤ length out → laid (laid out i s) (i + length s) more ≡ laid out i (s ++ more)
  laid_laid more h =
      let k : i ≤ length out = omega arith in
      let n : i + length (s ++ more) ≡ i + length s + length more = rw length-append (omega arith) in
      let d : drop (i + length s + length more) (laid out i s) ≡ drop (i + length (s ++ more)) out =
      rw (n, ← drop-drop (length more) (i + length s) (laid out i s), drop_laid k) (drop-drop (length more) (i + length s) out) in
      rw (take_laid k, d, append_assoc (take i out) s more)

  -- an entry stored behind what is to be laid
  pub laid_before : (b : ℕ) → i + length s < length out → laid (set out (i + length s) b) i s ≡ laid out i (s ++ (b ∷ []))
  laid_before b h =
      let t : take i (set out (i + length s) b) ≡ take i out = take-set-le i out (i + length s) b (omega arith) in
      let d : drop (i + length s) (set out (i + length s) b) ≡ b ∷ drop (suc (i + length s)) out =
      rw (set_split out (i + length s) b h) (drop_at (take (i + length s) out) _ (i + length s) (length-take-le (i + length s) out (omega arith))) in
      let n : i + length (s ++ (b ∷ [])) ≡ suc (i + length s) = rw (length-append) (omega arith) in
      rw (t, d, n) (sym (append_snoc front b _) ∙ rw (append_assoc (take i out) s (b ∷ [])))

-- at the front
pub laid_front : (out s : List ℕ) → laid out 0 s ≡ s ++ drop (length s) out
laid_front out s = let z : 0 + length s ≡ length s = omega arith in rw z

-- nothing changes nothing
pub laid_none : (out : List ℕ) (i : ℕ) → laid out i [] ≡ out
laid_none out i = let z : i + 0 ≡ i = omega arith in rw (z, append-nil (take i out)) (take-append-drop i out)

-- one entry is a store
pub laid_one : (out : List ℕ) (i b : ℕ) → i < length out → set out i b ≡ laid out i (b ∷ [])
laid_one out i b h =
    let n : i + 1 ≡ suc i = omega arith in
    set_split out i b h ∙ rw n (sym (append_snoc (take i out) b (drop (suc i) out)))

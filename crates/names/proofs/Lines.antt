-- Laws of lines: what stands where a line begins is the list of the names from there on, its lines are the names, and each begins behind
-- the one before it.
-- Assumes nothing.
use Prim.Native.Nat.{ℕ, zero, suc, ◌+◌, ◌-◌, ◌<◌, ◌≤◌}
use native.Mathlib.Omega.{arith}
use mathlib.Core.Path.{◌≡◌, refl, sym, ap, ◌∙◌}
use mathlib.Core.Logic.{⊎_elim}
use mathlib.Core.Bool.{Bool, true, false, cond}
use mathlib.Core.List.{List, [], ◌∷◌, ◌++◌, append-nil}
use lib.ListN.{length, get_or, take, drop, length-append, length-drop}
use lib.Seq.{append_snoc, drop-drop, drop-length, get_or-drop}
use lib.Dec.{eqb}
use Rattle.meaning.proofs.Bools.{lt_or_ge}
use Rattle.names.specs.Names.{lines_from, names_of}
use Rattle.names.specs.Index.{line_length, line_start, line_at}

-- ---- the first line

ended_from : (line s : List ℕ) → line_length s < length s
    → lines_from line s ≡ (line ++ take (line_length s) s) ∷ names_of (drop (suc (line_length s)) s)
unfolding lines_from names_of line_length
ended_from line [] h = absurd (omega arith)
ended_from line (c ∷ s) h = by (eqb c 10) refl h (ended_from (line ++ (c ∷ [])) s)
  where
    by : (t : Bool) → eqb c 10 ≡ t → cond t 0 (suc (line_length s)) < suc (length s)
        → (line_length s < length s
        → lines_from (line ++ (c ∷ [])) s ≡ ((line ++ (c ∷ [])) ++ take (line_length s) s) ∷ names_of (drop (suc (line_length s)) s))
        → cond t (line ∷ lines_from [] s) (lines_from (line ++ (c ∷ [])) s)
        ≡ (line ++ take (cond t 0 (suc (line_length s))) (c ∷ s)) ∷ names_of (drop (suc (cond t 0 (suc (line_length s)))) (c ∷ s))
    by true e k more = rw (append-nil line)
    by false e k more = more (omega arith) ∙ rw (append_snoc line c (take (line_length s) s))

unended_from : (line s : List ℕ) → 0 < length line + length s → length s ≤ line_length s → lines_from line s ≡ [] ∷ []
unfolding lines_from line_length
unended_from [] [] h k = absurd (omega arith)
unended_from (b ∷ line) [] h k = refl
unended_from line (c ∷ s) h k = by (eqb c 10) k (λ l. unended_from (line ++ (c ∷ [])) s (rw length-append (omega arith)) l)
  where
    by : (t : Bool) → suc (length s) ≤ cond t 0 (suc (line_length s)) → (length s ≤ line_length s → lines_from (line ++ (c ∷ [])) s ≡ [] ∷ [])
        → cond t (line ∷ lines_from [] s) (lines_from (line ++ (c ∷ [])) s) ≡ [] ∷ []
    by true l more = absurd (omega arith)
    by false l more = more (omega arith)

-- a first line that is ended is the first name
pub first_ended : (s : List ℕ) → line_length s < length s → names_of s ≡ take (line_length s) s ∷ names_of (drop (suc (line_length s)) s)
unfolding names_of
first_ended s h = ended_from [] s h

pub first_unended : (s : List ℕ) → 0 < length s → length s ≤ line_length s → names_of s ≡ [] ∷ []
unfolding names_of
first_unended s h k = unended_from [] s (omega arith) k

pub no_names : names_of [] ≡ []
unfolding names_of lines_from
no_names = refl

-- ---- every line

module _ (list : List ℕ) where
  pub next_start : (i : ℕ) → line_start list (suc i) ≡ line_start list i + line_length (drop (line_start list i) list) + 1
  unfolding line_start
  next_start i = refl

  pub starts_rise : (i j : ℕ) → i ≤ j → line_start list i ≤ line_start list j
  starts_rise i zero h = let e : i ≡ 0 = omega arith in rw e (omega arith)
  starts_rise i (suc j) h = ⊎_elim
      (λ (l : i < suc j). omega (arith, starts_rise i j (omega arith), next_start j))
      (λ (l : suc j ≤ i). let e : i ≡ suc j = omega arith in rw e (omega arith))
      (lt_or_ge i (suc j))

  -- the line at i is ended
  ended : (i : ℕ) → line_start list (suc i) ≤ length list → line_length (drop (line_start list i) list) < length (drop (line_start list i) list)
  ended i h = rw length-drop (omega (arith, next_start i))

  -- the names behind the first i are those of what stands where line i begins
  pub names_from : (i : ℕ) → line_start list i ≤ length list → drop i (names_of list) ≡ names_of (drop (line_start list i) list)
  unfolding line_start
  names_from zero h = refl
  names_from (suc i) h =
      let s : List ℕ = drop (line_start list i) list in
      let more : drop i (names_of list) ≡ names_of s = names_from i (omega arith) in
      let e : drop 1 (names_of s) ≡ names_of (drop (suc (line_length s)) s) = rw (first_ended s (ended i h)) in
      let one : i + 1 ≡ suc i = omega arith in
      let at : line_start list i + suc (line_length s) ≡ line_start list i + line_length s + 1 = omega arith in
      ap (λ k. drop k (names_of list)) (sym one)
      ∙ sym (drop-drop 1 i (names_of list))
      ∙ ap (drop 1) more
      ∙ e
      ∙ ap names_of (drop-drop (suc (line_length s)) (line_start list i) list ∙ ap (λ k. drop k list) at)

  -- name i where the names behind the first i are known
  first_of : (i : ℕ) (w : List ℕ) (ws : List (List ℕ)) → drop i (names_of list) ≡ w ∷ ws
      → (i < length (names_of list)) × (get_or (names_of list) i [] ≡ w)
  first_of i w ws e =
      let n : length (names_of list) - i ≡ suc (length ws) = sym (length-drop i (names_of list)) ∙ ap length e in
      let z : i + 0 ≡ i = omega arith in
      (omega arith, ap (λ k. get_or (names_of list) k []) (sym z) ∙ sym (get_or-drop i (names_of list) 0 []) ∙ ap (λ l. get_or l 0 []) e)

  -- a line that is ended is a name
  pub name_is_line : (i : ℕ) → line_start list (suc i) ≤ length list
      → (i < length (names_of list)) × (get_or (names_of list) i [] ≡ line_at list i)
  unfolding line_at
  name_is_line i h = first_of i _ _ (names_from i (omega (arith, next_start i)) ∙ first_ended _ (ended i h))

  -- one that is not is an empty name
  pub unended_is_empty : (i : ℕ) → line_start list i < length list → length list < line_start list (suc i)
      → (i < length (names_of list)) × (get_or (names_of list) i [] ≡ [])
  unended_is_empty i h k =
      let s : List ℕ = drop (line_start list i) list in
      let n : length s ≡ length list - line_start list i = length-drop (line_start list i) list in
      first_of i [] [] (names_from i (omega arith) ∙ first_unended s (omega arith) (omega (arith, next_start i)))

  -- so where a line begins before the end there is a name
  pub line_is_named : (i : ℕ) → line_start list i < length list → i < length (names_of list)
  line_is_named i h =
      ⊎_elim
      (λ (l : length list < line_start list (suc i)). (unended_is_empty i h l).0)
      (λ (l : line_start list (suc i) ≤ length list). (name_is_line i l).0)
      (lt_or_ge (length list) (line_start list (suc i)))

  -- there are at least as many names as lines that are ended
  pub enough_names : (i : ℕ) → line_start list i ≤ length list → i ≤ length (names_of list)
  enough_names zero h = omega arith
  enough_names (suc i) h = omega (arith, (name_is_line i h).0)

  -- where all the bytes are passed, so are the names
  pub all_passed : (i : ℕ) → line_start list i ≡ length list → length (names_of list) ≡ i
  all_passed i h =
      let e : drop i (names_of list) ≡ [] = names_from i (omega arith) ∙ rw (h, drop-length list) no_names in
      let n : length (names_of list) - i ≡ 0 = sym (length-drop i (names_of list)) ∙ ap length e in
      omega (arith, enough_names i (omega arith))

  -- what stands from where a line begins to before its end is the line
  pub line_part : (i at end : ℕ) → at ≡ line_start list i → end ≡ at + line_length (drop at list)
      → take (end - at) (drop at list) ≡ line_at list i
  unfolding line_at
  line_part i at end e k = let n : end - at ≡ line_length (drop at list) = omega arith in rw (n, e)

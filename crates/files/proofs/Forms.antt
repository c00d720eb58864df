-- Laws of forms: which rows a file can hold, when a line is the first bad one, and that a file has one form.
-- Assumes nothing.
use Prim.Native.Nat.{ℕ, zero, suc, ◌+◌, ◌*◌, ◌<◌, ◌≤◌}
use native.Mathlib.Omega.{arith}
use native.Mathlib.Numerals.{add-one}
use mathlib.Core.Path.{◌≡◌, refl, sym, ap, ◌∙◌}
use mathlib.Core.Logic.{⊎_elim}
use mathlib.Core.Bool.{false, not}
use mathlib.Core.List.{List, [], ◌∷◌, ◌++◌, append-nil}
use lib.ListN.{length, get_or, take, drop, take-append-drop, drop_of_length-le, length-drop}
use lib.Seq.{take_at, drop_at, take-append-le, take-take, drop-cons, length-take-le}
use lib.Dec.{T, ltb}
use borrow.Author.Tests.{ltb-false, le-ltb, le-leb}
use Rattle.meaning.specs.Lists.{some}
use Rattle.meaning.specs.Table.{rows, most_rows, length_within}
use Rattle.meaning.proofs.Tables.{length_within_lem}
use Rattle.meaning.proofs.Bools.{and_l, and_r, and_i, or_none_l, or_none_r, not_e, is_false, lt_or_ge}
use Rattle.decimal.specs.Decimal.{ascii, most_number}
use Rattle.files.specs.Files.{line, key, number_lines, table_lines, joined, bytes_of, lines_of, holdable, Form, good, bad, Opens, HasForm}
use Rattle.files.specs.Parts.{lines_before, Passed}
use Rattle.files.proofs.Lines.{keyed_number, lines_line, lines_before_lem, all_before, joined_lines, table_lines_lem, numbers_same, drop_numbers, take_numbers, length_numbers}

-- ---- rows that a file can hold

module _ (most : ℕ) (t : List ℕ) (h : T (holdable most t)) where
  pub holdable_length : T (length_within most t)
  unfolding holdable
  holdable_length = and_l (length_within most t) (not (some (ltb most_number) t)) h

  pub holdable_none : some (ltb most_number) t ≡ false
  unfolding holdable
  holdable_none = is_false (some (ltb most_number) t) (not_e (some (ltb most_number) t) (and_r (length_within most t) (not (some (ltb most_number) t)) h))

  pub holdable_rows : (length t ≡ 4 * rows t) × (0 < rows t) × (rows t ≤ most)
  holdable_rows = length_within_lem most t holdable_length

-- no number is above the largest
pub none_above : (t : List ℕ) → some (ltb most_number) t ≡ false → (i : ℕ) → get_or t i 0 ≤ most_number
unfolding some
none_above [] h i = omega arith
none_above (n ∷ t) h zero = ltb-false most_number n (or_none_l (ltb most_number n) (some (ltb most_number) t) h)
none_above (n ∷ t) h (suc i) = none_above t (or_none_r (ltb most_number n) (some (ltb most_number) t) h) i

pub above_none : (t : List ℕ) → ((i : ℕ) → i < length t → get_or t i 0 ≤ most_number) → some (ltb most_number) t ≡ false
unfolding some
above_none [] h = refl
above_none (n ∷ t) h = rw (le-ltb most_number n (h 0 (omega arith)), above_none t (λ i l. h (suc i) (omega arith)))

-- rows with a length that is allowed and numbers that fit can be held
pub holdable_from : (most : ℕ) (t : List ℕ) → T (length_within most t) → ((i : ℕ) → i < length t → get_or t i 0 ≤ most_number) → T (holdable most t)
unfolding holdable
holdable_from most t h k = and_i (length_within most t) (not (some (ltb most_number) t)) h (rw (above_none t k) tt)

-- ---- the first bad line

-- what begins with a line begins with its bytes
first_line : (s l : List ℕ) → take 1 (lines_of s) ≡ l ∷ [] → s ≡ l ++ joined (drop 1 (lines_of s))
unfolding joined
first_line s l e =
    sym (joined_lines s)
    ∙ ap joined (sym (take-append-drop 1 (lines_of s)))
    ∙ ap (λ (ls : List (List ℕ)). joined (ls ++ drop 1 (lines_of s))) e

-- what has no first line is empty
no_line : (s : List ℕ) → take 1 (lines_of s) ≡ [] → s ≡ []
unfolding joined
no_line s e = sym (joined_lines s) ∙ ap joined (none (lines_of s) e)
  where
    none : (ls : List (List ℕ)) → take 1 ls ≡ [] → ls ≡ []
    none [] e = refl
    none (l ∷ ls) e = cc

-- the entry behind the first k of a longer front
behind_front : (k : ℕ) (ls : List (List ℕ)) → drop k (take (k + 1) ls) ≡ take 1 (drop k ls)
behind_front k ls = rw add-one (go k ls)
  where
    go : (k : ℕ) (ls : List (List ℕ)) → drop k (take (suc k) ls) ≡ take 1 (drop k ls)
    go zero ls = refl
    go (suc k) [] = refl
    go (suc k) (l ∷ ls) = go k ls

-- the first k lines open some file, and what follows opens none with them: line k + 1 is the first bad one
pub parts : (most : ℕ) (file s : List ℕ) (before : List (List ℕ)) (k : ℕ) → length before ≡ k → lines_of file ≡ before ++ lines_of s
    → (t : List ℕ) → T (holdable most t) → take k (table_lines t) ≡ before
    → ((t : List ℕ) → T (holdable most t) → take k (table_lines t) ≡ before → take 1 (lines_of s) ≡ take 1 (drop k (table_lines t)) → ⊥)
    → HasForm most file (bad (k + 1))
unfolding HasForm
parts most file s before k n e t h b refuse = (opens, stops)
  where
    opens : (j : ℕ) → j < k + 1 → Opens most file j
    opens j l =
        let a : take j (lines_of file) ≡ take j before = rw e (take-append-le j before (lines_of s) (omega arith)) in
        (t, h, a ∙ ap (λ (ls : List (List ℕ)). take j ls) (sym b) ∙ take-take j k (table_lines t) (omega arith))

    front : take k (lines_of file) ≡ before
    front = rw e (take_at before (lines_of s) k n)

    rest : drop k (lines_of file) ≡ lines_of s
    rest = rw e (drop_at before (lines_of s) k n)

    stops : Opens most file (k + 1) → ⊥
    stops (u, g, d) =
        let a : take k (table_lines u) ≡ before =
        sym (take-take k (k + 1) (table_lines u) (omega arith)) ∙ ap (λ (ls : List (List ℕ)). take k ls) (sym d) ∙ take-take k (k + 1) (lines_of file) (omega arith) ∙ front in
        let c : take 1 (lines_of s) ≡ take 1 (drop k (table_lines u)) =
        ap (λ (ls : List (List ℕ)). take 1 ls) (sym rest) ∙ sym (behind_front k (lines_of file)) ∙ ap (λ (ls : List (List ℕ)). drop k ls) d ∙ behind_front k (table_lines u) in
        refuse u g a c

-- a root alone can be held: its file opens as every file does
abbrev pub least : List ℕ
least = 0 ∷ 0 ∷ 0 ∷ 0 ∷ []

pub least_holdable : (most : ℕ) → 0 < most → T (holdable most least)
unfolding holdable length_within some
least_holdable most h = rw (le-leb 1 most h) tt

-- line 1 is bad where the file does not begin with it
pub bad_first : (most : ℕ) → 0 < most → (file : List ℕ) → ((rest : List ℕ) → file ≡ line "edition" 1 ++ rest → ⊥) → HasForm most file (bad 1)
bad_first most p file refuse =
    parts most file file [] 0 refl refl least (least_holdable most p) refl (λ t h b e. refuse (joined (drop 1 (lines_of file))) (first_line file (line "edition" 1) e))

-- line 2 is bad where no count of rows in the limits stands there
pub bad_second : (most : ℕ) → 0 < most → (file s : List ℕ) → file ≡ line "edition" 1 ++ s
    → ((n : ℕ) (rest : List ℕ) → 0 < n → n ≤ most → s ≡ line "nodes" n ++ rest → ⊥) → HasForm most file (bad 2)
unfolding line some
bad_second most p file s e refuse =
    parts most file s (line "edition" 1 ∷ []) 1 refl (rw e (lines_line (ascii "edition=") 1 s refl)) least (least_holdable most p) refl
    (λ t h b c.
    let r = holdable_rows most t h in
    refuse (rows t) (joined (drop 1 (lines_of s))) r.1 r.2 (first_line s (line "nodes" (rows t)) c))

-- ---- the lines of numbers

-- before the line of number i stand i + 2
length_before : (i : ℕ) (t : List ℕ) → i ≤ length t → length (lines_before i t) ≡ i + 2
length_before i t h = let e : length (number_lines 0 (take i t)) ≡ i = length_numbers 0 (take i t) ∙ length-take-le i t h in omega arith

two_more : (i : ℕ) → i + 2 ≡ suc (suc i)
two_more i = omega arith

take_lines : (i : ℕ) (t : List ℕ) → take (i + 2) (table_lines t) ≡ lines_before i t
take_lines i t = rw (two_more i, take_numbers i 0 t)

drop_lines : (i : ℕ) (t : List ℕ) → drop (i + 2) (table_lines t) ≡ number_lines i (drop i t)
drop_lines i t = let e : 0 + i ≡ i = omega arith in rw (two_more i, drop_numbers i 0 t, e)

-- rows whose first lines are the same have the same count
pub same_length : (most other i : ℕ) (t u : List ℕ) → T (holdable most t) → T (holdable other u) → take (i + 2) (table_lines u) ≡ lines_before i t → length u ≡ length t
unfolding line
same_length most other i t u h g e =
    let k : lines_before i u ≡ lines_before i t = sym (take_lines i u) ∙ e in
    let l : line "nodes" (rows u) ≡ line "nodes" (rows t) = cc in
    let n : rows u ≡ rows t = keyed_number (ascii "nodes=") (rows u) (rows t) [] [] (ap (λ (l : List ℕ). l ++ []) l) in
    let a = holdable_rows most t h in
    let b = holdable_rows other u g in
    omega arith

module _ (file : List ℕ) (at i : ℕ) (t : List ℕ) (p : Passed file at i t) where
  lines_passed : lines_of file ≡ lines_before i t ++ lines_of (drop at file)
  lines_passed = ap lines_of p.passed ∙ lines_before_lem i t (drop at file)

  -- the line of number i is bad where no number stands there
  pub bad_number : i < length t → ((n : ℕ) (rest : List ℕ) → n ≤ most_number → drop at file ≡ line (key i) n ++ rest → ⊥) → HasForm most_rows file (bad (i + 3))
  unfolding number_lines
  bad_number h refuse =
      let e : i + 3 ≡ i + 2 + 1 = omega arith in
      rw e
      (parts most_rows file (drop at file) (lines_before i t) (i + 2) (length_before i t (omega arith)) lines_passed t p.holds (take_lines i t)
      (λ u g b c.
      let l : length u ≡ length t = same_length most_rows most_rows i t u p.holds g b in
      let d : take 1 (drop (i + 2) (table_lines u)) ≡ line (key i) (get_or u i 0) ∷ [] = rw (drop_lines i u, drop-cons u i 0 (omega arith)) in
      refuse (get_or u i 0) (joined (drop 1 (lines_of (drop at file)))) (none_above u (holdable_none most_rows u g) i)
      (first_line (drop at file) (line (key i) (get_or u i 0)) (c ∙ d))))

  -- the line behind those of all numbers is bad where the file goes on
  pub bad_last : i ≡ length t → at < length file → HasForm most_rows file (bad (i + 3))
  unfolding number_lines
  bad_last h l =
      let e : i + 3 ≡ i + 2 + 1 = omega arith in
      rw e
      (parts most_rows file (drop at file) (lines_before i t) (i + 2) (length_before i t (omega arith)) lines_passed t p.holds (take_lines i t)
      (λ u g b c.
      let k : length u ≡ length t = same_length most_rows most_rows i t u p.holds g b in
      let d : take 1 (drop (i + 2) (table_lines u)) ≡ [] = rw (drop_lines i u, drop_of_length-le u {i = i} (omega arith)) in
      let n : length (drop at file) ≡ 0 = ap length (no_line (drop at file) (c ∙ d)) in
      omega (arith, simp length-drop at n)))

  -- and the file is good where it ends there
  pub good_file : i ≡ length t → length file ≤ at → HasForm most_rows file (good t)
  unfolding HasForm bytes_of
  good_file h l = (
    p.holds,
    p.passed ∙ rw (drop_of_length-le file l, h, append-nil (joined (lines_before (length t) t))) (ap joined (all_before t)),
  )

-- ---- a file has one form

-- tables with the same bytes are the same
pub bytes_same : (t u : List ℕ) → bytes_of t ≡ bytes_of u → t ≡ u
bytes_same t u e =
    let l : table_lines t ≡ table_lines u = sym (table_lines_lem t) ∙ ap lines_of e ∙ table_lines_lem u in
    numbers_same 0 t u (cc)

-- a good file parts from no line of its own
good_opens : (most : ℕ) (file t : List ℕ) (k : ℕ) → HasForm most file (good t) → Opens most file k
unfolding HasForm
good_opens most file t k (h, e) = (t, h, ap (λ (ls : List (List ℕ)). take k ls) (ap lines_of e ∙ table_lines_lem t))

pub form_unique : (most : ℕ) (file : List ℕ) (a b : Form) → HasForm most file a → HasForm most file b → a ≡ b
unfolding HasForm
form_unique most file (good t) (good u) h k = ap good (bytes_same t u (sym h.1 ∙ k.1))
form_unique most file (good t) (bad k) h (opens, stops) = absurd (stops (good_opens most file t k h))
form_unique most file (bad k) (good t) (opens, stops) h = absurd (stops (good_opens most file t k h))
form_unique most file (bad j) (bad k) (opens, stops) (opens', stops') =
    ⊎_elim (λ (l : j < k). absurd (stops (opens' j l))) (λ (l : k ≤ j). ⊎_elim (λ (m : k < j). absurd (stops' (opens k m))) (λ (m : j ≤ k). ap bad (omega arith)) (lt_or_ge k j)) (lt_or_ge j k)

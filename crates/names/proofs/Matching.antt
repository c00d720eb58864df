-- Laws of lines against names: a line is bad by where it ends, its bytes and its place; and where all lines are indexed, a search gives the
-- number of a word.
-- Assumes nothing.
use Prim.Native.Nat.{ℕ, zero, suc, ◌+◌, ◌-◌, ◌<◌, ◌≤◌}
use native.Mathlib.Omega.{arith}
use native.Mathlib.Numerals.{add-one}
use mathlib.Core.Path.{◌≡◌, sym, ap, ◌∙◌}
use Rattle.std.specs.Prelude.{Option, Some, None, is_some}
use mathlib.Core.Logic.{⊎_elim}
use mathlib.Core.Bool.{true, false, ◌||◌, not, cond, true≢false}
use mathlib.Core.List.{List, []}
use lib.ListN.{length, get_or, take, drop, length-take, length-drop}
use lib.Dec.{ltb, leb}
use borrow.Author.Tests.{lt-ltb, le-ltb}
use Rattle.meaning.proofs.Bools.{lt_or_ge}
use Rattle.names.specs.Names.{most_names, good_name, same, position, names_of, bad_line, is_named, number_of}
use Rattle.names.specs.Index.{line_length, line_start, line_at, Indexed, Found, LineFrom}
use Rattle.names.proofs.Words.{same_equal, good_none, line_within}
use Rattle.names.proofs.Lines.{next_start, starts_rise, name_is_line, unended_is_empty, enough_names, line_part}
use Rattle.names.proofs.Places.{position_within, position_behind}
use Rattle.names.proofs.Accepted.{fine, different_names}

-- ---- bad lines

module _ (list : List ℕ) where
  abbrev names : List (List ℕ)
  names = names_of list

  -- a word is one of the first n names exactly if a search finds it among the first n lines
  pub found_among : (n : ℕ) (w : List ℕ) (r : Option ℕ) → line_start list n ≤ length list → Found list n w r → ltb (position names w) n ≡ is_some r
  unfolding Found
  found_among n w None h f =
      let other : (i : ℕ) → i < n → same (get_or names i []) w ≡ false =
      λ i l. rw (name_is_line list i (omega (arith, starts_rise list (suc i) n l))).1 (f i l) in
      le-ltb (position names w) n (position_behind names w n (enough_names list n h) other)
  found_among n w (Some zero) h f = absurd (omega (arith, f.0))
  found_among n w (Some (suc i)) h f =
      let z : suc i - 1 ≡ i = omega arith in
      let l : line_start list (suc i) ≤ length list = omega (arith, starts_rise list (suc i) n f.1) in
      let q = name_is_line list i l in
      let p : position names w ≤ i = position_within names w i q.0 (rw q.1 (rw z at f.2)) in
      lt-ltb (position names w) n (omega (arith, f.1))

  -- a line that is not ended is bad
  bad_unended : (i : ℕ) → line_start list i < length list → length list < line_start list (suc i) → bad_line names i ≡ true
  unfolding bad_line good_name
  bad_unended i h k = rw (unended_is_empty list i h k).1

  module _ (i at end : ℕ) (line : LineFrom list i at end) where
    pub line_limits : (line_start list (suc i) ≡ end + 1) × (at ≤ end) × (end ≤ length list)
    line_limits =
        let b = line.begins in
        let e = line.ends in
        let h = line.inside in
        let n : line_length (drop at list) ≤ length list - at = rw length-drop at (line_within (drop at list)) in
        let k : line_start list (suc i) ≡ at + line_length (drop at list) + 1 = rw b (next_start list i) in
        (omega arith, omega arith, omega arith)

    pub bad_at_end : end ≡ length list → bad_line names i ≡ true
    bad_at_end h = bad_unended i (omega (arith, line.begins, line.inside)) (omega (arith, line_limits.0))

    -- the bytes of a line that is ended
    abbrev word : List ℕ
    word = take (end - at) (drop at list)

    -- by which it is bad or not
    pub bad_by_word : end < length list → bad_line names i ≡ (not (good_name word) || ltb (position names word) i || leb most_names i)
    unfolding bad_line
    bad_by_word h =
        let e = (name_is_line list i (omega (arith, line_limits))).1 in
        rw (e, ← line_part list i at end line.begins line.ends)

  empty_line : (i : ℕ) → line_length (drop (line_start list i) list) < 1 → length (line_at list i) ≡ 0
  unfolding line_at
  empty_line i l = rw length-take (omega arith)

  -- what is known of a line that is not bad
  pub fine_line : (i : ℕ) → line_start list i < length list → bad_line names i ≡ false
      → (i < most_names) × (line_start list (suc i) ≤ length list) × (line_start list i + 2 ≤ line_start list (suc i))
  fine_line i h e =
      let f = fine names i e in
      let ends : line_start list (suc i) ≤ length list =
      ⊎_elim
      (λ (l : length list < line_start list (suc i)). absurd (true≢false (sym (bad_unended i h l) ∙ e)))
      (λ (l : line_start list (suc i) ≤ length list). l)
      (lt_or_ge (length list) (line_start list (suc i))) in
      let good : good_name (line_at list i) ≡ true = rw (name_is_line list i ends).1 at f.good in
      let long : 0 < line_length (drop (line_start list i) list) =
      ⊎_elim
      (λ (l : line_length (drop (line_start list i) list) < 1). absurd (true≢false (sym good ∙ good_none (line_at list i) (empty_line i l))))
      (λ (l : 1 ≤ line_length (drop (line_start list i) list)). l)
      (lt_or_ge (line_length (drop (line_start list i) list)) 1) in
      (f.few, ends, omega (arith, next_start list i))

-- ---- the number of a word

-- where all lines are indexed, the number of the line that a search finds is that of the word
pub number_found : (list heads nexts starts w : List ℕ) (r : Option ℕ) → Indexed list heads nexts starts → Found list (length (names_of list)) w r
    → r ≡ cond (is_named (names_of list) w) (Some (number_of (names_of list) w)) None
unfolding is_named number_of Found
number_found list heads nexts starts w None x f = rw (found_among list (length (names_of list)) w None x.all.ended f)
number_found list heads nexts starts w (Some zero) x f = absurd (omega (arith, f.0))
number_found list heads nexts starts w (Some (suc i)) x f =
    let z : suc i - 1 ≡ i = omega arith in
    let l : line_start list (suc i) ≤ length list = omega (arith, starts_rise list (suc i) (length (names_of list)) f.1, x.all.ended) in
    let e : get_or (names_of list) i [] ≡ w = (name_is_line list i l).1 ∙ same_equal (line_at list i) w (rw z at f.2) in
    let p : position (names_of list) w ≡ i = rw e at (different_names (names_of list) x.fine i f.1) in
    rw (found_among list (length (names_of list)) w (Some (suc i)) x.all.ended f, p) (ap Some (sym (add-one i)))

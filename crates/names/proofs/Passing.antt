-- Laws of the pass over all lines: how it starts, goes on, and ends at the first bad line or behind the last.
-- Assumes nothing.
use Prim.Native.Nat.{ℕ, ◌+◌, ◌-◌, ◌*◌, ◌<◌, ◌≤◌}
use native.Mathlib.Omega.{arith}
use native.Mathlib.Numerals.{add-one}
use mathlib.Core.Path.{◌≡◌, refl, sym, ap, ◌∙◌}
use mathlib.Core.Logic.{⊎_elim}
use mathlib.Core.Bool.{true, false}
use mathlib.Core.List.{List}
use lib.ListN.{length, take, drop, set, replicate, length-set, length-replicate}
use Rattle.meaning.proofs.Bools.{lt_or_ge}
use Rattle.meaning.proofs.Lists.{none_below, found_lowest, found_some, IsLowest}
use Rattle.names.specs.Names.{names_of, bad_line, bad_names, bad_line_number}
use Rattle.names.specs.Index.{line_length, line_start, Roomy, IndexedTo, Indexed, LineFrom, HasRoom}
use Rattle.names.proofs.Words.{rest}
use Rattle.names.proofs.Lines.{line_is_named, all_passed}
use Rattle.names.proofs.Indexing.{indexed_none}
use Rattle.names.proofs.Matching.{line_limits, fine_line}

-- the lines before this one, which begins at `at`, are indexed and not bad; each takes two bytes or more
pub record Indexing (list : List ℕ) (heads₀ nexts₀ starts₀ : ℕ) (heads nexts starts : List ℕ) (line at : ℕ) : Type 0 where
  pub roomy : Roomy list heads₀ nexts₀ starts₀
  pub same_heads : length heads ≡ heads₀
  pub same_nexts : length nexts ≡ nexts₀
  pub same_starts : length starts ≡ starts₀
  pub indexed : IndexedTo list line heads nexts starts
  pub begins : at ≡ line_start list line
  pub taken : line * 2 ≤ at
  pub passed : (i : ℕ) → i < line → bad_line (names_of list) i ≡ false

pub indexing_starts : (list heads nexts starts zeros : List ℕ) → zeros ≡ replicate (length heads) 0
    → Roomy list (length heads) (length nexts) (length starts)
    → Indexing list (length zeros) (length (set nexts 0 0)) (length starts) zeros (set nexts 0 0) starts 0 0
unfolding line_start
indexing_starts list heads nexts starts zeros e room =
    let n : length zeros ≡ length heads = ap length e ∙ length-replicate (length heads) 0 in
    record {
      roomy = rw (n, length-set nexts 0 0) room;
      same_heads = refl;
      same_nexts = refl;
      same_starts = refl;
      indexed = rw e (indexed_none list heads nexts starts room.hashes (omega (arith, room.chained)));
      begins = refl;
      taken = omega arith;
      passed = λ i l. absurd (omega arith);
    }

module _ (list : List ℕ) (heads₀ nexts₀ starts₀ : ℕ) (heads nexts starts : List ℕ) (line at : ℕ)
    (x : Indexing list heads₀ nexts₀ starts₀ heads nexts starts line at) where
  -- the next line
  pub line_from : (n : ℕ) → at < length list → n ≡ line_length (take (length list - at) (drop at list)) → LineFrom list line at (at + n)
  line_from n h e = record { begins = x.begins; ends = ap (λ k. at + k) (e ∙ ap line_length (rest list at)); inside = h }

  -- a line more that is not bad has room
  pub has_room : at < length list → bad_line (names_of list) line ≡ false → HasRoom list line (length nexts) (length starts)
  has_room h e =
      let b = x.begins in
      let f = fine_line list line (omega arith) e in
      let t = x.taken in
      let sn = x.same_nexts in
      let ss = x.same_starts in
      let rn = x.roomy.chained in
      let rs = x.roomy.placed in
      record { few = f.0; ended = f.1; chained = omega arith; placed = omega arith }

  pub indexing_more : (end : ℕ) (heads' nexts' starts' : List ℕ) → LineFrom list line at end → bad_line (names_of list) line ≡ false
      → IndexedTo list (line + 1) heads' nexts' starts'
      → length heads' ≡ length heads → length nexts' ≡ length nexts → length starts' ≡ length starts
      → Indexing list heads₀ nexts₀ starts₀ heads' nexts' starts' (line + 1) (end + 1)
  indexing_more end heads' nexts' starts' l e y sh sn ss =
      let b = x.begins in
      let f = fine_line list line (omega (arith, l.inside)) e in
      let k = (line_limits list line at end l).0 in
      let t = x.taken in
      record {
        roomy = x.roomy;
        same_heads = sh ∙ x.same_heads;
        same_nexts = sn ∙ x.same_nexts;
        same_starts = ss ∙ x.same_starts;
        indexed = y;
        begins = sym k ∙ ap (line_start list) (sym (add-one line));
        taken = omega arith;
        passed =
            λ i h.
            ⊎_elim (λ (d : i < line). x.passed i d) (λ (d : line ≤ i). let p : i ≡ line = omega arith in rw p e) (lt_or_ge i line);
      }

  -- where the line is bad, it is the first
  pub first_bad : at < length list → bad_line (names_of list) line ≡ true
      → (bad_names (names_of list) ≡ true) × (line + 1 ≡ bad_line_number (names_of list))
  unfolding bad_names bad_line_number
  first_bad h e =
      let inside : line < length (names_of list) = line_is_named list line (omega (arith, x.begins)) in
      let l : IsLowest (bad_line (names_of list)) (length (names_of list)) line = record { below = inside; holds = e; first = x.passed } in
      (found_some l, rw (found_lowest l))

  -- where no byte is left, no line is bad, and all are indexed
  pub all_indexed : length list ≤ at → Indexed list heads nexts starts
  unfolding bad_names
  all_indexed h =
      let b = x.begins in
      let n : length (names_of list) ≡ line = all_passed list line (omega (arith, x.indexed.ended)) in
      let none = none_below (bad_line (names_of list)) (length (names_of list)) (λ i l. x.passed i (omega arith)) in
      record { fine = none; all = rw n x.indexed }

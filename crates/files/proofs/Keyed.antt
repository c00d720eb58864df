-- Laws of the line of a key as it is read: what a text begins with, byte by byte and as an equation of bytes; when the line stands there.
-- Assumes nothing.
use Prim.Native.Nat.{ℕ, ◌+◌, ◌<◌, ◌≤◌}
use native.Mathlib.Omega.{arith}
use native.Mathlib.Numerals.{add-one}
use mathlib.Core.Path.{◌≡◌, refl, sym, ap, ◌∙◌}
use mathlib.Core.Bool.{Bool, true, false, true≢false}
use mathlib.Core.List.{List, [], ◌∷◌, ◌++◌, append_assoc}
use lib.ListN.{length, get_or, drop}
use lib.Seq.{drop-cons, drop-drop, drop-append_seam, get_or-drop}
use lib.Dec.{eqb}
use borrow.Author.Tests.{eqb-true, eqb-false, eq-eqb}
use Rattle.decimal.specs.Decimal.{digits, leading, most_number, decimal_at}
use Rattle.std.specs.Prelude.{Option, None, Some, Result, Ok, Err}
use Rattle.std.specs.Option.{ok_or}
use Rattle.std.specs.List.{starts_with}
use Rattle.decimal.proofs.Decimals.{read_digits, digits_read, found_same, leading_split, stands_inside}
use Rattle.files.specs.declared.FileRefusal.{FileRefusal}
use Rattle.files.specs.Parts.{begins, keyed, LineAt}

-- ---- byte by byte

-- what a text begins with, as the library tells it
pub begins_starts : (word text : List ℕ) → starts_with eqb text word ≡ begins word text
unfolding begins
begins_starts [] text = refl
begins_starts (b ∷ word) [] = refl
begins_starts (b ∷ word) (c ∷ text) = rw (begins_starts word text)

-- ---- as an equation of bytes

pub begins_with : (word text : List ℕ) → begins word text ≡ true → text ≡ word ++ drop (length word) text
unfolding begins
begins_with [] text h = refl
begins_with (b ∷ word) [] h = absurd (true≢false (sym h))
begins_with (b ∷ word) (c ∷ text) h = by (eqb b c) refl (begins_with word text)
  where
    by : (t : Bool) → eqb b c ≡ t → (begins word text ≡ true → text ≡ word ++ drop (length word) text) → c ∷ text ≡ b ∷ (word ++ drop (length word) text)
    by true e more =
        let k : begins word text ≡ true = rw e at h in
        let m : text ≡ word ++ drop (length word) text = more k in
        let d : b ≡ c = eqb-true b c e in
        λ i. sym d i ∷ m i
    by false e more = let k : false ≡ true = rw e at h in absurd (true≢false (sym k))

pub begins_append : (word rest : List ℕ) → begins word (word ++ rest) ≡ true
unfolding begins
begins_append [] rest = refl
begins_append (b ∷ word) rest = rw (eq-eqb b b refl, begins_append word rest)

-- what stands at an index where the rest of a text is known
stands_there : (text rest : List ℕ) (i b : ℕ) → drop i text ≡ b ∷ rest → get_or text i 0 ≡ b
stands_there text rest i b e = let z : i + 0 ≡ i = omega arith in rw z at (sym (get_or-drop i text 0 0)) ∙ ap (λ (l : List ℕ). get_or l 0 0) e

-- a line feed stands inside the text
pub feed_inside : (text : List ℕ) (i : ℕ) → eqb (get_or text i 0) 10 ≡ true → i < length text
feed_inside text i e = stands_inside (λ b. eqb b 10) text i refl e

-- ---- what is found or missing

-- where a line is missing, what is told in its place
pub missing : (found : Option (ℕ × ℕ)) (k e : FileRefusal) → ◌≡◌ {A = Result (ℕ × ℕ) FileRefusal} (ok_or found k) (Err e) → (found ≡ None) × (e ≡ k)
missing None k e h = (refl, cc)
missing (Some x) k e h = let w : ◌≡◌ {A = ℕ} 0 1 = cc in absurd (omega arith)

-- and the line where it is found
pub present : (found : Option (ℕ × ℕ)) (k : FileRefusal) (n next : ℕ) → ◌≡◌ {A = Result (ℕ × ℕ) FileRefusal} (ok_or found k) (Ok (n, next)) → found ≡ Some (n, next)
present None k n next h = let w : ◌≡◌ {A = ℕ} 0 1 = cc in absurd (omega arith)
present (Some x) k n next h = let e : ◌≡◌ {A = ℕ × ℕ} x (n, next) = cc in ap Some e

-- ---- the line of a key

module _ (word file : List ℕ) (at : ℕ) where
  behind : ℕ
  behind = at + length word

  -- what is read where the line of a number stands: the key, the number, and a line feed behind its digits
  module _ (n : ℕ) (rest : List ℕ) (h : n ≤ most_number) (e : drop at file ≡ keyed word n ++ rest) where
    there : drop at file ≡ word ++ (digits n ++ 10 ∷ rest)
    there = e ∙ rw (append_assoc word (digits n) (10 ∷ []), append_assoc word (digits n ++ 10 ∷ []) rest, append_assoc (digits n) (10 ∷ []) rest)

    key_there : begins word (drop at file) ≡ true
    key_there = rw there (begins_append word (digits n ++ 10 ∷ rest))

    digits_there : drop behind file ≡ digits n ++ 10 ∷ rest
    unfolding behind
    digits_there = sym (drop-drop (length word) at file) ∙ rw there (drop-append_seam word (digits n ++ 10 ∷ rest))

    number_there : decimal_at file behind ≡ Some (n, behind + length (digits n))
    unfolding leading
    number_there = read_digits file behind n (10 ∷ rest) h digits_there refl

    feed_there : drop (behind + length (digits n)) file ≡ 10 ∷ rest
    feed_there = sym (drop-drop (length (digits n)) behind file) ∙ rw digits_there (drop-append_seam (digits n) (10 ∷ rest))

  -- so there is no line where one of the three is not there
  pub no_key : begins word (drop at file) ≡ false → LineAt word file at None
  unfolding LineAt
  no_key b n rest h e = true≢false (sym (key_there n rest h e) ∙ b)

  pub no_number : decimal_at file (at + length word) ≡ None → LineAt word file at None
  unfolding LineAt behind
  no_number d n rest h e = let k : ◌≡◌ {A = Option (ℕ × ℕ)} (Some (n, behind + length (digits n))) None = sym (number_there n rest h e) ∙ d in let w : ◌≡◌ {A = ℕ} 0 1 = cc in omega arith

  module _ (n end : ℕ) (d : decimal_at file (at + length word) ≡ Some (n, end)) where
    pub no_feed : eqb (get_or file end 0) 10 ≡ false → LineAt word file at None
    unfolding LineAt behind
    no_feed f m rest h e =
        let z : behind + length (digits m) ≡ end = (found_same _ _ _ _ (sym (number_there m rest h e) ∙ d)).1 in
        eqb-false (get_or file end 0) 10 f (stands_there file rest end 10 (rw z at (feed_there m rest h e)))

    -- and there is one where all are
    pub line_found : begins word (drop at file) ≡ true → eqb (get_or file end 0) 10 ≡ true → LineAt word file at (Some (n, end + 1))
    unfolding LineAt
    line_found b f =
        let l : end < length file = feed_inside file end f in
        let r = digits_read file (at + length word) n end d in
        let a : drop at file ≡ word ++ drop (at + length word) file = begins_with word (drop at file) b ∙ rw (drop-drop (length word) at file) in
        let c : drop (at + length word) file ≡ digits n ++ drop end file =
        leading_split (drop (at + length word) file) ∙ rw (r.1, drop-drop (length (digits n)) (at + length word) file, r.2) in
        let g : drop end file ≡ 10 ∷ drop (end + 1) file = drop-cons file end 0 l ∙ rw (eqb-true (get_or file end 0) 10 f, add-one) in (
          r.0,
          omega arith,
          rw (a, c, g) (sym (rw (append_assoc word (digits n) (10 ∷ []), append_assoc word (digits n ++ 10 ∷ []) (drop (end + 1) file), append_assoc (digits n) (10 ∷ []) (drop (end + 1) file)))),
        )

-- Laws of lines: a line that is read is the one that was written, the lines of a table's bytes are the table's lines, and tables with the same
-- lines are the same.
-- Assumes nothing.
use Prim.Native.Nat.{ℕ, zero, suc, ◌+◌, ◌%◌, ◌<◌, ◌≤◌}
use Prim.Native.String.{String}
use native.Mathlib.Omega.{arith}
use native.Mathlib.Numerals.{add-one}
use mathlib.Core.Path.{◌≡◌, refl, sym, ap, ◌∙◌}
use mathlib.Core.Bool.{Bool, true, false, cond}
use mathlib.Core.List.{List, [], ◌∷◌, ◌++◌, append_assoc, append-nil}
use lib.ListN.{length, get_or, take, drop, length-append, take-append-drop}
use lib.Seq.{take-suc, take-length, length-take-le, append_snoc, drop-append_seam}
use lib.Dec.{eqb}
use borrow.Author.Tests.{eqb-false, ne_eqb}
use Rattle.meaning.specs.Lists.{some, has}
use Rattle.meaning.specs.Table.{rows}
use Rattle.meaning.proofs.Lists.{some_append}
use Rattle.meaning.proofs.Bools.{or_none_l, or_none_r}
use Rattle.decimal.specs.Decimal.{ascii, digits, leading, number}
use Rattle.decimal.proofs.Decimals.{Digits, first_digit, digits_digits, leading_append, number_digits}
use Rattle.files.specs.Files.{line, key, number_lines, table_lines, joined, bytes_of, onto, lines_of}
use Rattle.files.specs.Parts.{keyed, lines_before}

-- ---- the line of a key

-- digits have no line feed among them
digits_no_feed : (s : List ℕ) → Digits s → has s 10 ≡ false
unfolding some
digits_no_feed [] h = refl
digits_no_feed (b ∷ s) h =
    let d = first_digit b s h in
    rw (ne_eqb 10 b (λ e. omega arith), digits_no_feed s d.2)

-- a number is read off the front of its digits with a line feed behind them
feed_number : (n : ℕ) (rest : List ℕ) → number (leading (digits n ++ 10 ∷ rest)) ≡ n
unfolding leading
feed_number n rest = rw (leading_append (digits n) (10 ∷ rest) (digits_digits n), append-nil (digits n)) (number_digits n)

-- lines of one key with the same bytes, whatever follows, have the same number
pub keyed_number : (word : List ℕ) (n m : ℕ) (r q : List ℕ) → keyed word n ++ r ≡ keyed word m ++ q → n ≡ m
keyed_number word n m r q e =
    let cut : (n : ℕ) (r : List ℕ) → drop (length word) (keyed word n ++ r) ≡ digits n ++ 10 ∷ r =
    λ n r. rw (append_assoc word (digits n) (10 ∷ []), append_assoc word (digits n ++ 10 ∷ []) r, append_assoc (digits n) (10 ∷ []) r)
    (drop-append_seam word (digits n ++ 10 ∷ r)) in
    let d : digits n ++ 10 ∷ r ≡ digits m ++ 10 ∷ q = sym (cut n r) ∙ ap (λ (l : List ℕ). drop (length word) l) e ∙ cut m q in
    sym (feed_number n r) ∙ ap (λ (l : List ℕ). number (leading l)) d ∙ feed_number m q

-- the key of a number by its remainder
pub key_at : (i r : ℕ) → i % 4 ≡ r → key i ≡ key r
unfolding key
key_at i r e = let m : r % 4 ≡ r = omega arith in rw (e, m)

pub last_key : (i : ℕ) → (i % 4 ≡ 0 → ⊥) → (i % 4 ≡ 1 → ⊥) → (i % 4 ≡ 2 → ⊥) → i % 4 ≡ 3
last_key i a b c = by (i % 4) (omega arith) a b c
  where
    by : (r : ℕ) → r < 4 → (r ≡ 0 → ⊥) → (r ≡ 1 → ⊥) → (r ≡ 2 → ⊥) → r ≡ 3
    by zero h a b c = absurd (a refl)
    by (suc zero) h a b c = absurd (b refl)
    by (suc (suc zero)) h a b c = absurd (c refl)
    by (suc (suc (suc r))) h a b c = omega arith

-- what holds of the four keys holds of every number's
pub each_key : (P : String → Type 0) → P "kind" → P "name" → P "parent" → P "size" → (i : ℕ) → P (key i)
unfolding key
each_key P a b c d i = pick (eqb (i % 4) 0) (eqb (i % 4) 1) (eqb (i % 4) 2)
  where
    pick : (x y z : Bool) → P (cond x "kind" (cond y "name" (cond z "parent" "size")))
    pick true y z = a
    pick false true z = b
    pick false false true = c
    pick false false false = d

-- ---- the lines of bytes

-- the first line ends at the first line feed
lines_first : (body rest : List ℕ) → has body 10 ≡ false → lines_of (body ++ 10 ∷ rest) ≡ (body ++ 10 ∷ []) ∷ lines_of rest
unfolding lines_of onto some
lines_first [] rest h = refl
lines_first (b ∷ body) rest h =
    rw (ne_eqb b 10 (λ e. eqb-false 10 b (or_none_l (eqb 10 b) (has body 10) h) (sym e)), lines_first body rest (or_none_r (eqb 10 b) (has body 10) h))

-- a line of a key without a line feed is the first line of what it begins
pub lines_line : (word : List ℕ) (n : ℕ) (rest : List ℕ) → has word 10 ≡ false → lines_of (keyed word n ++ rest) ≡ keyed word n ∷ lines_of rest
lines_line word n rest h =
    rw (append_snoc (word ++ digits n) 10 rest)
    (lines_first (word ++ digits n) rest (some_append (eqb 10) word (digits n) ∙ rw (h, digits_no_feed (digits n) (digits_digits n))))

joined_onto : (b : ℕ) (ls : List (List ℕ)) → joined (onto b ls) ≡ b ∷ joined ls
unfolding onto joined
joined_onto b [] = refl
joined_onto b (l ∷ ls) = refl

-- the lines of a file one behind the other are the file
pub joined_lines : (s : List ℕ) → joined (lines_of s) ≡ s
unfolding lines_of joined
joined_lines [] = refl
joined_lines (b ∷ s) = by (eqb b 10) refl (joined_lines s)
  where
    by : (t : Bool) → eqb b 10 ≡ t → joined (lines_of s) ≡ s → joined (lines_of (b ∷ s)) ≡ b ∷ s
    by true e more = rw (e, more)
    by false e more = rw (e, joined_onto b (lines_of s), more)

-- ---- the lines of a table's numbers

pub length_numbers : (i : ℕ) (ns : List ℕ) → length (number_lines i ns) ≡ length ns
unfolding number_lines
length_numbers i [] = refl
length_numbers i (n ∷ ns) = ap suc (length_numbers (i + 1) ns)

pub take_numbers : (k i : ℕ) (ns : List ℕ) → take k (number_lines i ns) ≡ number_lines i (take k ns)
unfolding number_lines
take_numbers zero i ns = refl
take_numbers (suc k) i [] = refl
take_numbers (suc k) i (n ∷ ns) = rw (take_numbers k (i + 1) ns)

pub drop_numbers : (k i : ℕ) (ns : List ℕ) → drop k (number_lines i ns) ≡ number_lines (i + k) (drop k ns)
unfolding number_lines
drop_numbers zero i ns = let e : i + 0 ≡ i = omega arith in rw e
drop_numbers (suc k) i [] = refl
drop_numbers (suc k) i (n ∷ ns) = let e : i + suc k ≡ i + 1 + k = omega arith in rw e (drop_numbers k (i + 1) ns)

append_numbers : (i : ℕ) (ns ms : List ℕ) → number_lines i (ns ++ ms) ≡ number_lines i ns ++ number_lines (i + length ns) ms
unfolding number_lines
append_numbers i [] ms = let e : i + 0 ≡ i = omega arith in rw e
append_numbers i (n ∷ ns) ms = let e : i + suc (length ns) ≡ i + 1 + length ns = omega arith in rw (e, append_numbers (i + 1) ns ms)

-- numbers with the same lines are the same
pub numbers_same : (i : ℕ) (ns ms : List ℕ) → number_lines i ns ≡ number_lines i ms → ns ≡ ms
unfolding number_lines line
numbers_same i [] [] e = refl
numbers_same i [] (m ∷ ms) e = let w : ◌≡◌ {A = ℕ} 0 1 = cc in absurd (omega arith)
numbers_same i (n ∷ ns) [] e = let w : ◌≡◌ {A = ℕ} 0 1 = cc in absurd (omega arith)
numbers_same i (n ∷ ns) (m ∷ ms) e =
    let l : line (key i) n ≡ line (key i) m = cc in
    let h : n ≡ m = keyed_number (ascii (key i) ++ ascii "=") n m [] [] (ap (λ (l : List ℕ). l ++ []) l) in
    let k : ns ≡ ms = numbers_same (i + 1) ns ms (cc) in
    cc

-- ---- the lines of a table

joined_append : (ls ks : List (List ℕ)) → joined (ls ++ ks) ≡ joined ls ++ joined ks
unfolding joined
joined_append [] ks = refl
joined_append (l ∷ ls) ks = rw (joined_append ls ks) (sym (append_assoc l (joined ls) (joined ks)))

number_line : (i n : ℕ) (s : List ℕ) → lines_of (line (key i) n ++ s) ≡ line (key i) n ∷ lines_of s
unfolding some line
number_line i n s = lines_line (ascii (key i) ++ ascii "=") n s (each_key (λ k. has (ascii k ++ ascii "=") 10 ≡ false) refl refl refl refl i)

lines_numbers : (i : ℕ) (ns s : List ℕ) → lines_of (joined (number_lines i ns) ++ s) ≡ number_lines i ns ++ lines_of s
unfolding number_lines joined
lines_numbers i [] s = refl
lines_numbers i (n ∷ ns) s =
    rw (append_assoc (line (key i) n) (joined (number_lines (i + 1) ns)) s, number_line i n (joined (number_lines (i + 1) ns) ++ s), lines_numbers (i + 1) ns s)

-- a file that begins with the lines before number i has these as its first lines
pub lines_before_lem : (i : ℕ) (t s : List ℕ) → lines_of (joined (lines_before i t) ++ s) ≡ lines_before i t ++ lines_of s
unfolding joined some line
lines_before_lem i t s =
    let e = line "edition" 1 in
    let n = line "nodes" (rows t) in
    let more = joined (number_lines 0 (take i t)) in
    rw (
      append_assoc e (n ++ more) s,
      lines_line (ascii "edition=") 1 (n ++ more ++ s) refl,
      append_assoc n more s,
      lines_line (ascii "nodes=") (rows t) (more ++ s) refl,
      lines_numbers 0 (take i t) s,
    )

-- before the line behind the last number stand all lines
pub all_before : (t : List ℕ) → lines_before (length t) t ≡ table_lines t
all_before t = rw take-length

-- the lines of a table's bytes are the table's lines
pub table_lines_lem : (t : List ℕ) → lines_of (bytes_of t) ≡ table_lines t
unfolding bytes_of lines_of
table_lines_lem t =
    let e : joined (table_lines t) ≡ joined (lines_before (length t) t) ++ [] = rw (all_before t) (sym (append-nil (joined (table_lines t)))) in
    ap lines_of e ∙ lines_before_lem (length t) t [] ∙ append-nil (lines_before (length t) t) ∙ all_before t

-- one line more
pub numbers_more : (i : ℕ) (t : List ℕ) → i < length t → number_lines 0 (take (i + 1) t) ≡ number_lines 0 (take i t) ++ (line (key i) (get_or t i 0) ∷ [])
unfolding number_lines
numbers_more i t h =
    let e : 0 + length (take i t) ≡ i = rw (length-take-le i t (omega arith)) (omega arith) in
    rw (add-one, take-suc t i 0, append_numbers 0 (take i t) (get_or t i 0 ∷ []), e)

-- and its bytes, behind any lines
pub joined_more : (front : List (List ℕ)) (i : ℕ) (t : List ℕ) → i < length t
    → joined (front ++ number_lines 0 (take (i + 1) t)) ≡ joined (front ++ number_lines 0 (take i t)) ++ line (key i) (get_or t i 0)
unfolding joined
joined_more front i t h =
    let l = line (key i) (get_or t i 0) in
    let ls = number_lines 0 (take i t) in
    rw (numbers_more i t h, ← append_assoc front ls (l ∷ []), joined_append (front ++ ls) (l ∷ []), append-nil l)

pub length_more : (front : List (List ℕ)) (i : ℕ) (t : List ℕ) → i < length t
    → length (joined (front ++ number_lines 0 (take (i + 1) t))) ≡ length (joined (front ++ number_lines 0 (take i t))) + length (line (key i) (get_or t i 0))
length_more front i t h = rw (joined_more front i t h, length-append)

-- some of the numbers have no more bytes than all
pub joined_le : (k : ℕ) (t : List ℕ) → length (joined (number_lines 0 (take k t))) ≤ length (joined (number_lines 0 t))
joined_le k t =
    let ls = number_lines 0 (take k t) in
    let more = number_lines (0 + length (take k t)) (drop k t) in
    let e : joined (number_lines 0 t) ≡ joined ls ++ joined more =
    ap (λ (l : List ℕ). joined (number_lines 0 l)) (sym (take-append-drop k t)) ∙ ap joined (append_numbers 0 (take k t) (drop k t)) ∙ joined_append ls more in
    rw (e, length-append) (omega arith)

-- Sets of nodes as marks, and the loops over them: each loop's invariant is a named predicate, with laws for its start, its
-- steps and its end.
-- Assumes nothing.
use Prim.Native.Nat.{ℕ, zero, suc, ◌+◌, ◌<◌, ◌≤◌}
use mathlib.Core.Path.{◌≡◌, refl, sym, ap, ◌∙◌}
use mathlib.Core.Logic.{inl, inr, ⊎_elim}
use mathlib.Core.Bool.{Bool, true, false, ◌&&◌, ◌||◌, and-true, and-false, or-false, or-true, cond}
use mathlib.Core.List.{List, [], ◌∷◌, ◌++◌, append_assoc}
use lib.ListN.{length, get_or, replicate, take, drop, set, length-append}
use lib.Seq.{take-suc, drop-cons, set_at, get_or-set_other, get_or-set_same}
use lib.Dec.{eqb, ltb}
use native.Mathlib.Omega.{arith}
use native.Mathlib.Nat.{eq-or-lt_of_le}
use native.Mathlib.Numerals.{add-one}
use borrow.Author.Tests.{eq-eqb, ne_eqb, lt-ltb, le-ltb}
use Rattle.meaning.specs.Lists.{keep, some, has, up_to}
use Rattle.meaning.specs.Table.{rows}
use Rattle.meaning.specs.Meaning.{union}
use Rattle.meaning.proofs.Bools.{lt_or_ge, eq_or_ne}
use Rattle.meaning.proofs.Lists.{one_value, some_append, keep_append, keep_more, keep_skip, keep_up_to}

-- the rows that are marked, ascending
unfoldable pub listed : List ℕ → List Bool → List ℕ
listed t marks = keep (λ y. get_or marks y false) (up_to (rows t))

-- marks that agree list the same rows
pub listed_by : (t : List ℕ) (marks : List Bool) (f : ℕ → Bool) → ((y : ℕ) → y < rows t → get_or marks y false ≡ f y) → listed t marks ≡ keep f (up_to (rows t))
unfolding listed
listed_by t marks f h = keep_up_to (λ y. get_or marks y false) f (rows t) h

keep_nothing : (n : ℕ) → keep (λ y. false) (up_to n) ≡ []
unfolding up_to keep
keep_nothing zero = refl
keep_nothing (suc n) = keep_append (λ y. false) (up_to n) (n ∷ []) ∙ rw (keep_nothing n)

-- no marks list no rows
pub listed_none : (t : List ℕ) (marks : List Bool) → ((y : ℕ) → get_or marks y false ≡ false) → listed t marks ≡ []
listed_none t marks h = listed_by t marks (λ y. false) (λ y l. h y) ∙ keep_nothing (rows t)

-- nothing is marked where all marks begin as false
pub no_marks : (n y : ℕ) → get_or (replicate n false) y false ≡ false
no_marks n y = one_value n y false

-- one mark where there was none lists that row, if it is one
module _ (t : List ℕ) (marks : List Bool) (x : ℕ) (clear : (y : ℕ) → get_or marks y false ≡ false) where
  pub listed_one : x < length marks → listed t (set marks x true) ≡ keep (eqb x) (up_to (rows t))
  listed_one l = listed_by t (set marks x true) (eqb x) (λ y m. elim (eq_or_ne y x) [
    | inl e ↦ rw (e, eq-eqb x x refl) (get_or-set_same marks x true false l)
    | inr e ↦ rw (ne_eqb x y (λ q. e (sym q))) (get_or-set_other marks x y true false e ∙ clear y)
  ])

  pub listed_outside : rows t ≤ length marks → length marks ≤ x → listed t marks ≡ keep (eqb x) (up_to (rows t))
  listed_outside l k = listed_by t marks (eqb x) (λ y m. clear y ∙ sym (ne_eqb x y (λ q. absurd (omega arith))))

-- a number that is not i is below i + 1 exactly if it is below i
beside : (y i : ℕ) → ((y ≡ i) → ⊥) → ltb y i ≡ ltb y (i + 1)
beside y i q = elim (lt_or_ge y i) [
  | inl l ↦ rw (lt-ltb y i l) (sym (lt-ltb y (i + 1) (omega arith)))
  | inr l ↦ rw (le-ltb y i l) (sym (le-ltb y (i + 1) (omega (arith, q))))
]

-- ---- what is marked below i

module _ (marks : List Bool) where
  abbrev pub marked : ℕ → List ℕ
  marked n = keep (λ z. get_or marks z false) (up_to n)

  marked_more : (i : ℕ) → get_or marks i false ≡ true → marked (i + 1) ≡ marked i ++ (i ∷ [])
  unfolding up_to keep
  marked_more i h = rw (add-one i) (keep_more (λ z. get_or marks z false) (up_to i) i h)

  marked_skip : (i : ℕ) → get_or marks i false ≡ false → marked (i + 1) ≡ marked i
  unfolding up_to keep
  marked_skip i h = rw (add-one i) (keep_skip (λ z. get_or marks z false) (up_to i) i h)

  fewer_below : (i n : ℕ) → i ≤ n → length (marked i) ≤ length (marked n)
  unfolding up_to
  fewer_below i zero h = let e : i ≡ 0 = omega arith in rw e (omega arith)
  fewer_below i (suc n) h = elim (eq-or-lt_of_le h) [
    | inl e ↦ rw e (omega arith)
    | inr l ↦
        let more : length (marked (suc n)) ≡ length (marked n) + length (keep (λ z. get_or marks z false) (n ∷ [])) =
        ap length (keep_append (λ z. get_or marks z false) (up_to n) (n ∷ [])) ∙ length-append (marked n) (keep (λ z. get_or marks z false) (n ∷ [])) in
        omega (arith, fewer_below i n (omega arith))
  ]

-- ---- counting the marks

-- m is how many are marked below i
unfoldable pub Counted : List Bool → ℕ → ℕ → Type 0
Counted marks m i = m ≡ length (marked marks i)

module _ (marks : List Bool) where
  pub counted_start : Counted marks 0 0
  unfolding Counted up_to keep
  counted_start = refl

  pub counted_more : (m i : ℕ) → Counted marks m i → get_or marks i false ≡ true → Counted marks (m + 1) (i + 1)
  unfolding Counted
  counted_more m i h e = rw (marked_more marks i e, length-append (marked marks i) (i ∷ []), h)

  pub counted_skip : (m i : ℕ) → Counted marks m i → get_or marks i false ≡ false → Counted marks m (i + 1)
  unfolding Counted
  counted_skip m i h e = rw (marked_skip marks i e) h

  pub counted_done : (t : List ℕ) (m i : ℕ) → Counted marks m i → i ≡ rows t → m ≡ length (listed t marks)
  unfolding Counted listed
  counted_done t m i h e = rw (← e) h

  -- a marked row that is still to come needs room for itself
  pub counted_room : (t : List ℕ) (m i k : ℕ) → Counted marks m i → get_or marks i false ≡ true → i < rows t → length (listed t marks) ≤ k → m < k
  unfolding Counted listed
  counted_room t m i k h e l b =
      let g : m + 1 ≡ length (marked marks (i + 1)) = unfold Counted in counted_more m i h e in
      omega (arith, fewer_below marks (i + 1) (rows t) (omega arith))

-- ---- writing the marked rows

-- the front of the list is what is marked below i, the rest is as it was
unfoldable pub Listing : List Bool → List ℕ → List ℕ → ℕ → ℕ → Type 0
Listing marks list₀ list m i = list ≡ marked marks i ++ drop m list₀

module _ (marks : List Bool) (list₀ : List ℕ) where
  pub listing_start : Listing marks list₀ list₀ 0 0
  unfolding Listing up_to keep
  listing_start = refl

  pub listing_skip : (list : List ℕ) (m i : ℕ) → Listing marks list₀ list m i → get_or marks i false ≡ false → Listing marks list₀ list m (i + 1)
  unfolding Listing
  listing_skip list m i h e = rw (marked_skip marks i e) h

  pub listing_more : (list : List ℕ) (m i : ℕ) → Listing marks list₀ list m i → Counted marks m i → get_or marks i false ≡ true → m < length list₀ → Listing marks list₀ (set list m i) (m + 1) (i + 1)
  unfolding Listing Counted
  listing_more list m i h n e l =
      rw (h, drop-cons list₀ m 0 l, set_at (marked marks i) (get_or list₀ m 0) (drop (suc m) list₀) i m (sym n), marked_more marks i e, add-one m)
      (sym (append_assoc (marked marks i) (i ∷ []) (drop (suc m) list₀)))

  pub listing_done : (t : List ℕ) (list : List ℕ) (m i : ℕ) → Listing marks list₀ list m i → Counted marks m i → i ≡ rows t → list ≡ listed t marks ++ drop (length (listed t marks)) list₀
  unfolding Listing Counted listed
  listing_done t list m i h n e = rw (← e, ← n) h

-- ---- writing each mark, in place

-- the marks below i are as g says, and the others as they were
unfoldable pub Wrote : (ℕ → Bool) → List Bool → List Bool → ℕ → Type 0
Wrote g old now i = (y : ℕ) → get_or now y false ≡ cond (ltb y i) (g y) (get_or old y false)

pub wrote_start : (g : ℕ → Bool) (old : List Bool) → Wrote g old old 0
unfolding Wrote
wrote_start g old y = rw (le-ltb y 0 (omega arith))

module _ (g : ℕ → Bool) (old now : List Bool) where
  -- a mark that is not written yet
  pub wrote_ahead : (i y : ℕ) → Wrote g old now i → i ≤ y → get_or now y false ≡ get_or old y false
  unfolding Wrote
  wrote_ahead i y h a = h y ∙ rw (le-ltb y i a)

  pub wrote_more : (i : ℕ) (v : Bool) → Wrote g old now i → i < length now → v ≡ g i → Wrote g old (set now i v) (i + 1)
  unfolding Wrote
  wrote_more i v h a e y = elim (eq_or_ne y i) [
    | inl q ↦ rw (q, lt-ltb i (i + 1) (omega arith)) (get_or-set_same now i v false a ∙ e)
    | inr q ↦ get_or-set_other now i y v false q ∙ h y ∙ ap (λ (b : Bool). cond b (g y) (get_or old y false)) (beside y i q)
  ]

  pub wrote_all : (n i : ℕ) → Wrote g old now i → n ≤ i → (y : ℕ) → y < n → get_or now y false ≡ g y
  unfolding Wrote
  wrote_all n i h a y l = h y ∙ rw (lt-ltb y i (omega arith))

  pub wrote_listed : (t : List ℕ) (i : ℕ) → Wrote g old now i → rows t ≤ i → listed t now ≡ keep g (up_to (rows t))
  wrote_listed t i h a = listed_by t now g (wrote_all (rows t) i h a)

-- the same from the last of n marks down
unfoldable pub WroteDown : (ℕ → Bool) → ℕ → List Bool → List Bool → ℕ → Type 0
WroteDown g n old now i = (y : ℕ) → y < n → get_or now y false ≡ cond (ltb y i) (get_or old y false) (g y)

pub down_start : (g : ℕ → Bool) (n : ℕ) (old : List Bool) → WroteDown g n old old n
unfolding WroteDown
down_start g n old y l = rw (lt-ltb y n l)

module _ (g : ℕ → Bool) (n : ℕ) (old now : List Bool) where
  pub down_ahead : (i y : ℕ) → WroteDown g n old now i → y < i → y < n → get_or now y false ≡ get_or old y false
  unfolding WroteDown
  down_ahead i y h a l = h y l ∙ rw (lt-ltb y i a)

  pub down_more : (i : ℕ) (v : Bool) → WroteDown g n old now (i + 1) → i < length now → v ≡ g i → WroteDown g n old (set now i v) i
  unfolding WroteDown
  down_more i v h a e y l = elim (eq_or_ne y i) [
    | inl q ↦ rw (q, le-ltb i i (omega arith)) (get_or-set_same now i v false a ∙ e)
    | inr q ↦ get_or-set_other now i y v false q ∙ h y l ∙ ap (λ (b : Bool). cond b (get_or old y false) (g y)) (sym (beside y i q))
  ]

  pub down_all : WroteDown g n old now 0 → (y : ℕ) → y < n → get_or now y false ≡ g y
  unfolding WroteDown
  down_all h y l = h y l ∙ rw (le-ltb y 0 (omega arith))

-- ---- marking what stands in a list

-- the first i of the list are marked besides what was
unfoldable pub Added : List ℕ → List Bool → ℕ → List Bool → Type 0
Added list marks₀ i marks = (y : ℕ) → y < length marks₀ → get_or marks y false ≡ (get_or marks₀ y false || has (take i list) y)

module _ (list : List ℕ) (marks₀ : List Bool) where
  pub added_start : Added list marks₀ 0 marks₀
  unfolding Added some
  added_start y l = sym (or-false (get_or marks₀ y false))

  has_more : (y i : ℕ) → i < length list → has (take (i + 1) list) y ≡ (has (take i list) y || eqb y (get_or list i 0))
  unfolding some
  has_more y i a = rw (add-one i, take-suc list i 0 a, some_append (eqb y) (take i list) (get_or list i 0 ∷ []), or-false (eqb y (get_or list i 0)))

  pub added_more : (marks : List Bool) (i z : ℕ) → Added list marks₀ i marks → i < length list → z ≡ get_or list i 0 → z < length marks → Added list marks₀ (i + 1) (set marks z true)
  unfolding Added
  added_more marks i z h a e b y l = elim (eq_or_ne y z) [
    | inl q ↦
        let r : get_or (set marks z true) y false ≡ true = rw q (get_or-set_same marks z true false b) in
        rw (r, has_more y i a, ← e, eq-eqb y z q, or-true (has (take i list) y), or-true (get_or marks₀ y false))
    | inr q ↦ rw (has_more y i a, ← e, ne_eqb y z q, or-false (has (take i list) y)) (get_or-set_other marks z y true false q ∙ h y l)
  ]

  pub added_skip : (marks : List Bool) (i z : ℕ) → Added list marks₀ i marks → i < length list → z ≡ get_or list i 0 → length marks ≡ length marks₀ → length marks ≤ z → Added list marks₀ (i + 1) marks
  unfolding Added
  added_skip marks i z h a e s b y l = rw (has_more y i a, ← e, ne_eqb y z (λ q. absurd (omega arith)), or-false (has (take i list) y)) (h y l)

  pub added_done : (marks : List Bool) (i n : ℕ) → Added list marks₀ i marks → i ≡ n → (y : ℕ) → y < length marks₀ → get_or marks y false ≡ (get_or marks₀ y false || has (take n list) y)
  unfolding Added
  added_done marks i n h e y l = rw (← e) (h y l)

-- ---- marking what marked rows reach

-- next has what the marked rows below x reach by f
unfoldable pub Reached : (ℕ → List ℕ) → List Bool → ℕ → List Bool → Type 0
Reached f marks x next = (y : ℕ) → y < length next → get_or next y false ≡ some (λ z. has (f z) y) (marked marks x)

module _ (f : ℕ → List ℕ) (marks : List Bool) where
  pub reached_start : (next : List Bool) → ((y : ℕ) → get_or next y false ≡ false) → Reached f marks 0 next
  unfolding Reached up_to keep some
  reached_start next h y l = h y

  pub reached_skip : (next : List Bool) (x : ℕ) → get_or marks x false ≡ false → Reached f marks x next → Reached f marks (x + 1) next
  unfolding Reached
  reached_skip next x h r y l = rw (marked_skip marks x h) (r y l)

  pub reached_more : (next next' : List Bool) (x : ℕ) → get_or marks x false ≡ true → Reached f marks x next → length next' ≡ length next
      → ((y : ℕ) → y < length next → get_or next' y false ≡ (get_or next y false || has (f x) y)) → Reached f marks (x + 1) next'
  unfolding Reached some
  reached_more next next' x h r s k y b =
      let b' : y < length next = omega arith in
      k y b' ∙ rw (marked_more marks x h, some_append (λ z. has (f z) y) (marked marks x) (x ∷ []), r y b', or-false (has (f x) y))

  pub reached_done : (t : List ℕ) (next : List Bool) (x : ℕ) → Reached f marks x next → x ≡ rows t → rows t ≤ length next → listed t next ≡ union t f (listed t marks)
  unfolding Reached listed union
  reached_done t next x r e b = keep_up_to _ _ (rows t) (λ y l. rw (← e) (r y (omega arith)))

-- ---- setting one mark

-- mark p is set where b holds, and stays where it does not
pub set_if : (m : List Bool) (p : ℕ) (b : Bool) → p < length m → (q : ℕ) → get_or (set m p (get_or m p false || b)) q false ≡ (get_or m q false || (b && eqb p q))
set_if m p b a q =
    ⊎_elim
    (λ e. rw (eq-eqb p q (sym e), and-true b, e) (get_or-set_same m p (get_or m p false || b) false a))
    (λ e. rw (ne_eqb p q (λ f. e (sym f)), and-false b, or-false (get_or m q false)) (get_or-set_other m p q (get_or m p false || b) false e))
    (eq_or_ne q p)

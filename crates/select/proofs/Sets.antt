-- Laws of sets as marks, and of states as sets: a chain of predicates narrows a set, one after the other; a step back and a
-- chain of steps back, over rows that are near, and what is near; a step that does not count, taken from all marked nodes at
-- once, reaches the union of what it reaches from each; truths decided for all rows.
-- Assumes nothing.
use Rattle.std.proofs.Common.{◌≡◌, refl, sym, ◌∙◌, ℕ, ◌+◌, ◌-◌, ◌<◌, Bool, true, false, ◌&&◌, cond, List, length, get_or, ltb, eqb, Float, eq-eqb, arith}
use Rattle.std.proofs.Math.Bool.{and_assoc, and-true}
use Rattle.meaning.specs.Lists.{up_to, some, has}
use Rattle.meaning.specs.Table.{rows}
use Rattle.meaning.specs.Axis.{axis_of, test_of, on, principal, passes}
use Rattle.meaning.specs.declared.Axis.{Axis}
use Rattle.meaning.specs.declared.Test.{Test}
use Rattle.meaning.specs.declared.Op.{Op}
use Rattle.meaning.specs.declared.Op.TheVariants.{Absolute, And, Exists, Negation, Or}
use Rattle.meaning.specs.Rows.{op_at, first_link, second_link}
use Rattle.meaning.specs.Tree.{Tree, tree, index_or_axis, test_at}
use Rattle.meaning.specs.Meaning.{select, union}
use Rattle.meaning.specs.Turning.{counting, counts}
use Rattle.meaning.proofs.Lists.{some_same}
use Rattle.meaning.proofs.Windows.{some_and, some_keep}
use Rattle.meaning.proofs.Marks.{listed, listed_by}
use Rattle.meaning.proofs.Evaluation.{step_to}
use Rattle.meaning.proofs.Places.{placed_on}
use Rattle.meaning.proofs.Free.{true_at, ok, fits, free_step}
use Rattle.meaning.proofs.Backward.{before, backs, before_by, ok_none, ok_row, pair_row, not_row, exists_row, relative_row, absolute_row}
use Rattle.meaning.proofs.Near.{covers_all, near_agree, near_backs, near_none, near_row}
use Rattle.reach.specs.Reach.{hit, Hits}
use Rattle.sieve.specs.Sieve.{state, Recast, Lowered, Exchanged, Sieved, Bounded, Retained}
use Rattle.sieve.proofs.Sieves.{sieved_agree, sieved_bounded, recast_bounded, pair_sieved, not_sieved, thinned_state, thinned_bounded, settled_marks, settled_bounded, retained_marks}
use Rattle.cover.specs.Covered.{CoversActive}
use Rattle.marks.specs.Sets.{Sifted, Met}
use Rattle.select.specs.Sets.{Narrowed, Thinned, LedBy, Led}

module _ (edition : ℕ) (t : List ℕ) (literals : List Float) where
  -- the rows that pass a test and the predicates behind it
  sifted_narrowed : (axis : Axis) (u : Test) (e : Tree) (entry mid exit : List Bool) → Sifted edition t axis u entry mid → Narrowed edition t literals e mid exit → (y : ℕ) → y < rows t → get_or exit y false ≡ (get_or entry y false && fits edition t literals (principal axis) u e y)
  unfolding Sifted Narrowed
  sifted_narrowed axis u e entry mid exit s n y l = n y l ∙ rw (s y l) (and_assoc (get_or entry y false) (passes edition t (principal axis) u y) (ok edition t literals e y))

  -- one step back: what is near, the test, the predicates, then to the nodes on whose axis it is
  pub led_by : (axis : Axis) (u : Test) (e : Tree) (near entry met mid next exit : List Bool) → Met t near entry met → Sifted edition t axis u met mid → Narrowed edition t literals e mid next → Hits t (λ z w. on t axis w z) next exit → LedBy edition t literals near e axis u entry exit
  unfolding LedBy Met Hits hit
  led_by axis u e near entry met mid next exit m s n h y l =
      h y l ∙ before_by edition t literals axis u e (λ z. get_or entry z false && get_or near z false) (λ z. get_or next z false) (λ z k. sifted_narrowed axis u e met mid next s n z k ∙ rw (m z k)) y

  -- one step forward that does not count: the axis, the test, the predicates
  pub strode : (p : List ℕ) (b : ℕ) (axis : Axis) (u : Test) (entry reached mid exit : List Bool) → counting (tree p b) ≡ false → Hits t (on t axis) entry reached → Sifted edition t axis u reached mid → Narrowed edition t literals (tree p b) mid exit
      → listed t exit ≡ union t (step_to edition t literals p b axis u) (listed t entry)
  unfolding union listed Hits hit
  strode p b axis u entry reached mid exit free h s n = listed_by t exit (λ y. some (λ x. has (step_to edition t literals p b axis u x) y) (listed t entry)) marked
    where
      marked : (y : ℕ) → y < rows t → get_or exit y false ≡ some (λ x. has (step_to edition t literals p b axis u x) y) (listed t entry)
      marked y l =
          let good : Bool = fits edition t literals (principal axis) u (tree p b) y in
          sifted_narrowed axis u (tree p b) reached mid exit s n y l
          ∙ rw (h y l)
          (sym (some_and (λ x. get_or entry x false && on t axis x y) good (up_to (rows t)))
          ∙ some_same (λ x. (get_or entry x false && on t axis x y) && good) (λ x. get_or entry x false && has (step_to edition t literals p b axis u x) y) (up_to (rows t)) (λ x. rw (free_step edition t literals axis u (tree p b) x y free, placed_on t axis x y l) (and_assoc (get_or entry x false) (on t axis x y) good))
          ∙ sym (some_keep (λ x. has (step_to edition t literals p b axis u x) y) (λ x. get_or entry x false) (up_to (rows t))))

  -- a set is narrowed as states: all are active, the marked ones stay so, the predicates thin them, and what is active stays marked
  pub narrowed_by : (e : Tree) (n : ℕ) (entry exit : List Bool) (fresh settled thinned : List ℕ) → n ≡ rows t → ((y : ℕ) → y < n → state fresh y ≡ 2) → Sieved (λ y. get_or entry y false) 2 n fresh settled → Thinned edition t literals e settled thinned → Retained n 2 thinned entry exit
      → Narrowed edition t literals e entry exit
  unfolding Narrowed Thinned
  narrowed_by e n entry exit fresh settled thinned q all s h r y l =
      retained_marks n (ok edition t literals e) thinned entry exit r (λ z k. h z (rw q at k) ∙ rw (settled_marks n entry fresh settled all s z k)) y (rw q l)

-- ---- states that are low enough for a truth to be decided

module _ (t : List ℕ) (n : ℕ) (all : n ≡ rows t) where
  -- where all are active and the marked ones stay so, none is above the failing ones, 3
  pub settled_low : (marks : List Bool) (fresh settled : List ℕ) → ((y : ℕ) → y < n → state fresh y ≡ 2) → Sieved (λ y. get_or marks y false) 2 n fresh settled → Bounded (rows t) 3 settled
  settled_low marks fresh settled h s = rw all at (settled_bounded n marks fresh settled h s)

  -- where the failing ones are put out, none is above the active ones, 2
  pub put_low : (put mid : List ℕ) → Bounded (rows t) 3 put → Recast n 3 0 put mid → Bounded (rows t) 2 mid
  put_low put mid h r = thinned_bounded (rows t) put mid h (rw all at r)

-- ---- chains, stated over what code has read of their rows

module _ (edition : ℕ) (t : List ℕ) (literals : List Float) (p : List ℕ) (l : ℕ) where
  -- no predicates, no steps: the set stays
  pub narrowed_none : (marks : List Bool) → l ≡ 0 → Narrowed edition t literals (tree p l) marks marks
  unfolding Narrowed
  narrowed_none marks e y k = rw (← ok_none edition t literals p l y e) (sym (and-true (get_or marks y false)))

  pub thinned_none : (states : List ℕ) → l ≡ 0 → Thinned edition t literals (tree p l) states states
  unfolding Thinned
  thinned_none states e y k = rw (← ok_none edition t literals p l y e) (sym (and-true (eqb (state states y) 2)))

  pub led_none : (near marks : List Bool) → l ≡ 0 → Led edition t literals near (tree p l) marks marks
  unfolding Led
  led_none near marks e y k = near_none edition t literals p l (λ z. get_or near z false) (λ z. get_or marks z false) y e

  module _ (some-row : (l ≡ 0) → ⊥) (a b : ℕ) (is-first : a ≡ first_link p (l - 1)) (is-second : b ≡ second_link p (l - 1)) where
    -- those before it thin the set, then its own truth, decided for what is left
    pub thinned_row : (n : ℕ) (entry put mid exit : List ℕ) → n ≡ rows t → Thinned edition t literals (tree p a) entry put → Recast n 3 0 put mid → Sieved (true_at edition t literals (tree p b)) 2 (rows t) mid exit → Thinned edition t literals (tree p l) entry exit
    unfolding Thinned
    thinned_row n entry put mid exit q h r s y m =
        thinned_state (rows t) (true_at edition t literals (tree p b)) put mid exit (rw q at r) s y m
        ∙ rw (h y m, ← ok_row edition t literals p l some-row a is-first b is-second y) (and_assoc (eqb (state entry y) 2) (ok edition t literals (tree p a) y) (true_at edition t literals (tree p b) y))

    -- one step back, then those before it
    pub led_row : (axis : Axis) (u : Test) (near entry mid exit : List Bool) → axis ≡ axis_of (index_or_axis p (l - 1)) → u ≡ test_of (test_at p (l - 1)) → LedBy edition t literals near (tree p b) axis u entry mid → Led edition t literals near (tree p a) mid exit → Led edition t literals near (tree p l) entry exit
    unfolding Led LedBy
    led_row axis u near entry mid exit e f h k y m =
        k y m
        ∙ near_agree edition t literals (λ z. get_or near z false) (tree p a) (λ z. get_or mid z false) (before edition t literals axis u (tree p b) (λ z. get_or entry z false && get_or near z false)) h y m
        ∙ near_row edition t literals p l (λ z. get_or near z false) some-row a b axis u is-first is-second e f (λ z. get_or entry z false) y

-- ---- whether a chain of steps leads anywhere, decided for all rows

module _ (edition : ℕ) (t : List ℕ) (literals : List Float) (s : Tree) (n active : ℕ) (entry exit : List ℕ) (near full marks : List Bool) (all : n ≡ rows t) (is-full : (y : ℕ) → y < rows t → get_or full y false ≡ true)
    (led : Led edition t literals near s full marks) (settled : Sieved (λ y. get_or marks y false) active n entry exit) where
  -- backwards from all rows, over what is near, where that covers what the chain may come by from the active rows
  pub near_decided : CoversActive edition t s active entry near → Sieved (backs edition t literals s (λ z. true)) active (rows t) entry exit
  unfolding Led CoversActive
  near_decided c = sieved_agree active (rows t) entry exit (λ y. get_or marks y false) (backs edition t literals s (λ z. true)) (rw all at settled)
      (λ y k i. led y k ∙ near_backs edition t literals s (λ y. get_or near y false) (λ x. eqb (state entry x) active) c (λ z. get_or full z false) (λ z. true) (λ z m h. is-full z m) y k (eq-eqb (state entry y) active i))

  -- all rows are near
  pub all_decided : ((y : ℕ) → y < rows t → get_or near y false ≡ true) → Sieved (backs edition t literals s (λ z. true)) active (rows t) entry exit
  unfolding CoversActive
  all_decided h = near_decided (covers_all edition t s (λ y. get_or near y false) (λ x. eqb (state entry x) active) h)

-- ---- the existence of what a path selects, decided for all rows

module _ (edition : ℕ) (t : List ℕ) (literals : List Float) (p : List ℕ) (l : ℕ) (some-row : (l ≡ 0) → ⊥) (exists : op_at p (l - 1) ≡ Exists) (a : ℕ) (is-path : a ≡ first_link p (l - 1)) (some-path : (a ≡ 0) → ⊥)
    (op : Op) (is-op : op ≡ op_at p (a - 1)) (active : ℕ) (entry exit : List ℕ) where
  -- an absolute path, from any node
  pub absolute_decided : op ≡ Absolute → (k : ℕ) (r : Bool) (n : ℕ) → k ≡ length (select edition t literals (tree p a) 0) → r ≡ ltb 0 k → n ≡ rows t → Sieved (λ y. r) active n entry exit → Sieved (true_at edition t literals (tree p l)) active (rows t) entry exit
  absolute_decided e k r n f g q h = sieved_agree active (rows t) entry exit (λ y. r) (true_at edition t literals (tree p l)) (rw q at h)
      (λ y m i. g ∙ rw (f, absolute_row edition t literals p a some-path (first_link p (a - 1)) refl op is-op e 0 y) (exists_row edition t literals p l some-row a is-path (op_at p (l - 1)) refl exists y))

  -- a relative path whose steps do not count, backwards
  pub relative_decided : (op ≡ Absolute → ⊥) → (s : ℕ) → s ≡ first_link p (a - 1) → (r : Bool) → r ≡ counts (tree p s) → r ≡ false → Sieved (backs edition t literals (tree p s) (λ z. true)) active (rows t) entry exit → Sieved (true_at edition t literals (tree p l)) active (rows t) entry exit
  relative_decided q s is-steps r f g h = sieved_agree active (rows t) entry exit (backs edition t literals (tree p s) (λ z. true)) (true_at edition t literals (tree p l)) h
      (λ y m i. relative_row edition t literals p a some-path s is-steps op is-op q (sym f ∙ g) y m ∙ exists_row edition t literals p l some-row a is-path (op_at p (l - 1)) refl exists y)

-- ---- and, or, not, decided for all rows

module _ (edition : ℕ) (t : List ℕ) (literals : List Float) (p : List ℕ) (l : ℕ) (some-row : (l ≡ 0) → ⊥) (a : ℕ) (is-first : a ≡ first_link p (l - 1)) (active n : ℕ) (entry decided : List ℕ) (all : n ≡ rows t)
    (low : Bounded (rows t) active entry) (first : Sieved (true_at edition t literals (tree p a)) active (rows t) entry decided) where
  module _ (any : Bool) (op : op_at p (l - 1) ≡ cond any Or And) (raised : List ℕ) (up : Recast n (cond any (active + 1) active) (active + 2) decided raised) where
    -- what is raised for the second operand is the highest
    pub raised_low : Bounded (rows t) (active + 2) raised
    raised_low = recast_bounded (rows t) decided raised (cond any (active + 1) active) (active + 2) (active + 1) (active + 2) (rw all at up) (sieved_bounded (rows t) entry decided (true_at edition t literals (tree p a)) active first low) (omega arith) (omega arith)

    -- an or where any, else an and
    pub pair_decided : (b : ℕ) → b ≡ second_link p (l - 1) → (both exit : List ℕ) → Sieved (true_at edition t literals (tree p b)) (active + 2) (rows t) raised both → Lowered n active both exit
        → Sieved (true_at edition t literals (tree p l)) active (rows t) entry exit
    pair_decided b is-second both exit second down = sieved_agree active (rows t) entry exit _ (true_at edition t literals (tree p l))
        (pair_sieved active (rows t) (true_at edition t literals (tree p a)) entry decided low first (true_at edition t literals (tree p b)) raised both exit second (rw all at down) any (rw all at up))
        (λ y m i. pair_row edition t literals p l some-row a is-first (op_at p (l - 1)) refl b is-second any op y)

  -- a not
  pub not_decided : (exit : List ℕ) → op_at p (l - 1) ≡ Negation → Exchanged n active decided exit → Sieved (true_at edition t literals (tree p l)) active (rows t) entry exit
  not_decided exit op turn = sieved_agree active (rows t) entry exit _ (true_at edition t literals (tree p l))
      (not_sieved active (rows t) (true_at edition t literals (tree p a)) entry decided low first exit (rw all at turn))
      (λ y m i. not_row edition t literals p l some-row a is-first (op_at p (l - 1)) refl op y)

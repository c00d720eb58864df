-- Laws of states: loops that change one state after the other; and, or and not as passes over the states, each reduced to a
-- law of one state, by cases on whether it is active; from marks to states and back.
-- Assumes nothing.
use Prim.Native.Nat.{ℕ, ◌+◌, ◌<◌, ◌≤◌}
use mathlib.Core.Path.{◌≡◌, refl, ap, ◌∙◌}
use mathlib.Core.Logic.{inl, inr}
use mathlib.Core.Bool.{Bool, true, false, ◌&&◌, ◌||◌, not, cond}
use mathlib.Core.List.{List}
use lib.Dec.{eqb}
use lib.ListN.{length, get_or, set}
use lib.Seq.{get_or-set_same, get_or-set_other}
use native.Mathlib.Omega.{arith}
use borrow.Author.Tests.{eq-eqb, ne_eqb, lt-ltb, le-ltb}
use Rattle.meaning.proofs.Bools.{eq_or_ne, lt_or_ge}
use Rattle.sieve.specs.Sieve.{state, recast_of, lowered_of, exchanged_of, sieved_of, Became, BecameTo, Recast, Lowered, Exchanged, Sieved, SievedTo, Bounded, Retained}

-- ---- one state after the other

module _ (g : ℕ → ℕ → ℕ) (n : ℕ) (entry : List ℕ) where
  -- nothing is changed before the first row
  pub became_start : BecameTo g 0 n entry entry
  unfolding BecameTo
  became_start y l = rw (le-ltb y 0 (omega arith))

  -- row i is changed, and no other
  became_next : (now next : List ℕ) (i : ℕ) → BecameTo g i n entry now → (i < n → state next i ≡ g i (state now i)) → ((y : ℕ) → (y ≡ i → ⊥) → state next y ≡ state now y) → BecameTo g (i + 1) n entry next
  unfolding BecameTo
  became_next now next i h e k y l = elim (eq_or_ne y i) [
    | inl q ↦
        let m : i < n = omega arith in
        let same : state now i ≡ state entry i = h i m ∙ rw (le-ltb i i (omega arith)) in
        rw (q, lt-ltb i (i + 1) (omega arith)) (e m ∙ ap (g i) same)
    | inr q ↦ k y q ∙ h y l ∙ elim (lt_or_ge y i) [
      | inl m ↦ rw (lt-ltb y i m, lt-ltb y (i + 1) (omega arith))
      | inr m ↦ rw (le-ltb y i m, le-ltb y (i + 1) (omega arith))
    ]
  ]

  -- row i is written
  pub became_more : (now : List ℕ) (i v : ℕ) → BecameTo g i n entry now → i < length now → v ≡ g i (state now i) → BecameTo g (i + 1) n entry (set now i v)
  became_more now i v h l e = became_next now (set now i v) i h (λ m. get_or-set_same now i v 0 l ∙ e) (λ y q. get_or-set_other now i y v 0 q)

  -- row i stays as it is
  pub became_same : (now : List ℕ) (i : ℕ) → BecameTo g i n entry now → state now i ≡ g i (state now i) → BecameTo g (i + 1) n entry now
  became_same now i h e = became_next now now i h (λ m. e) (λ y q. refl)

  -- all rows are passed
  pub became_done : (now : List ℕ) (i : ℕ) → BecameTo g i n entry now → n ≤ i → Became g n entry now
  unfolding BecameTo Became
  became_done now i h l y m = h y m ∙ rw (lt-ltb y i (omega arith))

-- ---- a truth decided row by row

module _ (f : ℕ → Bool) (active n : ℕ) (entry : List ℕ) where
  -- nothing is decided before the first row
  pub sieved_start : SievedTo f active 0 n entry entry
  unfolding SievedTo
  sieved_start = became_start _ n entry

  -- row i is not active
  pub sieved_skip : (now : List ℕ) (i : ℕ) → SievedTo f active i n entry now → (state now i ≡ active → ⊥) → SievedTo f active (i + 1) n entry now
  unfolding SievedTo sieved_of
  sieved_skip now i h q = became_same _ n entry now i h (rw (ne_eqb (state now i) active q))

  -- row i is active, and decided
  pub sieved_write : (now : List ℕ) (i v : ℕ) → SievedTo f active i n entry now → state now i ≡ active → v ≡ cond (f i) active (active + 1) → i < length now → SievedTo f active (i + 1) n entry (set now i v)
  unfolding SievedTo sieved_of
  sieved_write now i v h q e l = became_more _ n entry now i v h l (rw (q, eq-eqb active active refl) e)

  -- all rows are decided
  pub sieved_done : (now : List ℕ) (i : ℕ) → SievedTo f active i n entry now → n ≤ i → Sieved f active n entry now
  unfolding SievedTo Sieved
  sieved_done now i h l = became_done _ n entry now i h l

-- ---- one state

recast_hit : (from to : ℕ) (s : ℕ) → s ≡ from → recast_of from to s ≡ to
unfolding recast_of
recast_hit from to s e = rw (eq-eqb s from e)

recast_miss : (from to : ℕ) (s : ℕ) → (s ≡ from → ⊥) → recast_of from to s ≡ s
unfolding recast_of
recast_miss from to s q = rw (ne_eqb s from q)

sieved_hit : (a : Bool) (active s : ℕ) → s ≡ active → sieved_of a active s ≡ cond a active (active + 1)
unfolding sieved_of
sieved_hit a active s e = rw (e, eq-eqb active active refl)

sieved_miss : (a : Bool) (active s : ℕ) → (s ≡ active → ⊥) → sieved_of a active s ≡ s
unfolding sieved_of
sieved_miss a active s q = rw (ne_eqb s active q)

-- decided one level higher, and lowered again
abbrev lowered : Bool → ℕ → ℕ → ℕ
lowered b active s = lowered_of active (sieved_of b (active + 2) s)

lowered_hit : (b : Bool) (active s : ℕ) → s ≡ active + 2 → lowered b active s ≡ cond b active (active + 1)
lowered_hit b active s e = rw (sieved_hit b (active + 2) s e) (by b)
  where
    by : (b : Bool) → lowered_of active (cond b (active + 2) (active + 2 + 1)) ≡ cond b active (active + 1)
    by true = unfold lowered_of in rw (eq-eqb (active + 2) (active + 2) refl)
    by false = unfold lowered_of in rw (ne_eqb (active + 2 + 1) (active + 2) (λ e. omega arith), eq-eqb (active + 2 + 1) (active + 3) (omega arith))

lowered_miss : (b : Bool) (active s : ℕ) → s ≤ active + 1 → lowered b active s ≡ s
unfolding lowered_of
lowered_miss b active s l = rw (sieved_miss b (active + 2) s (λ e. omega arith), ne_eqb s (active + 2) (λ e. omega arith), ne_eqb s (active + 3) (λ e. omega arith))

module _ (active s : ℕ) (low : s ≤ active) where
  -- where a holds b decides, one level higher
  and_of : (a b : Bool) → lowered b active (recast_of active (active + 2) (sieved_of a active s)) ≡ sieved_of (a && b) active s
  and_of a b = elim (eq_or_ne s active) [
    | inl q ↦ rw (sieved_hit a active s q, sieved_hit (a && b) active s q) (by a)
    | inr q ↦ rw (sieved_miss a active s q, sieved_miss (a && b) active s q, recast_miss active (active + 2) s q) (lowered_miss b active s (omega arith))
  ]
    where
      by : (a : Bool) → lowered b active (recast_of active (active + 2) (cond a active (active + 1))) ≡ cond (a && b) active (active + 1)
      by true = rw (recast_hit active (active + 2) active refl) (lowered_hit b active (active + 2) refl)
      by false = rw (recast_miss active (active + 2) (active + 1) (λ e. omega arith)) (lowered_miss b active (active + 1) (omega arith))

  -- where a does not hold b decides, one level higher
  or_of : (a b : Bool) → lowered b active (recast_of (active + 1) (active + 2) (sieved_of a active s)) ≡ sieved_of (a || b) active s
  or_of a b = elim (eq_or_ne s active) [
    | inl q ↦ rw (sieved_hit a active s q, sieved_hit (a || b) active s q) (by a)
    | inr q ↦ rw (sieved_miss a active s q, sieved_miss (a || b) active s q, recast_miss (active + 1) (active + 2) s (λ e. omega arith)) (lowered_miss b active s (omega arith))
  ]
    where
      by : (a : Bool) → lowered b active (recast_of (active + 1) (active + 2) (cond a active (active + 1))) ≡ cond (a || b) active (active + 1)
      by true = rw (recast_miss (active + 1) (active + 2) active (λ e. omega arith)) (lowered_miss b active active (omega arith))
      by false = rw (recast_hit (active + 1) (active + 2) (active + 1) refl) (lowered_hit b active (active + 2) refl)

  -- holding and not holding are exchanged
  not_of : (a : Bool) → exchanged_of active (sieved_of a active s) ≡ sieved_of (not a) active s
  unfolding exchanged_of
  not_of a = elim (eq_or_ne s active) [
    | inl q ↦ rw (sieved_hit a active s q, sieved_hit (not a) active s q) (by a)
    | inr q ↦ rw (sieved_miss a active s q, sieved_miss (not a) active s q, ne_eqb s active q, ne_eqb s (active + 1) (λ e. omega arith))
  ]
    where
      by : (a : Bool) → exchanged_of active (cond a active (active + 1)) ≡ cond (not a) active (active + 1)
      by true = unfold exchanged_of in rw (eq-eqb active active refl)
      by false = unfold exchanged_of in rw (ne_eqb (active + 1) active (λ e. omega arith), eq-eqb (active + 1) (active + 1) refl)

-- ---- and, or, not

module _ (active n : ℕ) (f : ℕ → Bool) (entry decided : List ℕ) (low : Bounded n active entry) (first : Sieved f active n entry decided) where
  module _ (g : ℕ → Bool) (raised both exit : List ℕ) (second : Sieved g (active + 2) n raised both) (down : Lowered n active both exit) where
    -- the rows where the first operand holds are raised, the second is decided for them, and all are lowered
    pub and_sieved : Recast n active (active + 2) decided raised → Sieved (λ y. f y && g y) active n entry exit
    unfolding Recast Lowered Sieved Became Bounded
    and_sieved up y l = rw (down y l, second y l, up y l, first y l) (and_of active (state entry y) (low y l) (f y) (g y))

    -- the rows where it does not hold are raised
    pub or_sieved : Recast n (active + 1) (active + 2) decided raised → Sieved (λ y. f y || g y) active n entry exit
    unfolding Recast Lowered Sieved Became Bounded
    or_sieved up y l = rw (down y l, second y l, up y l, first y l) (or_of active (state entry y) (low y l) (f y) (g y))

    -- the two under one head: an or where any, else an and
    pub pair_sieved : (any : Bool) → Recast n (cond any (active + 1) active) (active + 2) decided raised → Sieved (λ y. cond any (f y || g y) (f y && g y)) active n entry exit
    pair_sieved true up = or_sieved up
    pair_sieved false up = and_sieved up

  -- the rows where it holds and those where it does not are exchanged
  pub not_sieved : (exit : List ℕ) → Exchanged n active decided exit → Sieved (λ y. not (f y)) active n entry exit
  unfolding Exchanged Sieved Became Bounded
  not_sieved exit turn y l = rw (turn y l, first y l) (not_of active (state entry y) (low y l) (f y))

-- ---- truths that are the same for every row, and truths that agree

module _ (active n : ℕ) (entry : List ℕ) where
  -- a truth that holds everywhere: nothing changes
  pub all_sieved : Sieved (λ y. true) active n entry entry
  unfolding Sieved Became
  all_sieved y l = elim (eq_or_ne (state entry y) active) [
    | inl q ↦ rw (sieved_hit true active (state entry y) q) q
    | inr q ↦ rw (sieved_miss true active (state entry y) q)
  ]

  module _ (exit : List ℕ) where
    -- a truth that holds nowhere: every active state becomes one more
    pub none_sieved : Recast n active (active + 1) entry exit → Sieved (λ y. false) active n entry exit
    unfolding Recast Sieved Became
    none_sieved h y l = h y l ∙ elim (eq_or_ne (state entry y) active) [
      | inl q ↦ rw (recast_hit active (active + 1) (state entry y) q, sieved_hit false active (state entry y) q)
      | inr q ↦ rw (recast_miss active (active + 1) (state entry y) q, sieved_miss false active (state entry y) q)
    ]

    -- truths that agree on the active rows are decided alike
    pub sieved_agree : (f g : ℕ → Bool) → Sieved f active n entry exit → ((y : ℕ) → y < n → state entry y ≡ active → f y ≡ g y) → Sieved g active n entry exit
    unfolding Sieved Became
    sieved_agree f g h e y l = h y l ∙ elim (eq_or_ne (state entry y) active) [
      | inl q ↦ rw (e y l q)
      | inr q ↦ rw (sieved_miss (f y) active (state entry y) q, sieved_miss (g y) active (state entry y) q)
    ]

-- ---- bounds

recast_most : (from to s top most : ℕ) → s ≤ top → top ≤ most → to ≤ most → recast_of from to s ≤ most
recast_most from to s top most l m k = elim (eq_or_ne s from) [
  | inl q ↦ rw (recast_hit from to s q) k
  | inr q ↦ rw (recast_miss from to s q) (omega arith)
]

sieved_most : (a : Bool) (active s : ℕ) → s ≤ active → sieved_of a active s ≤ active + 1
sieved_most a active s l = elim (eq_or_ne s active) [
  | inl q ↦ rw (sieved_hit a active s q) (by a)
  | inr q ↦ rw (sieved_miss a active s q) (omega arith)
]
  where
    by : (a : Bool) → cond a active (active + 1) ≤ active + 1
    by true = omega arith
    by false = omega arith

module _ (n : ℕ) (entry exit : List ℕ) where
  -- deciding makes no state more than one above active
  pub sieved_bounded : (f : ℕ → Bool) (active : ℕ) → Sieved f active n entry exit → Bounded n active entry → Bounded n (active + 1) exit
  unfolding Sieved Became Bounded
  sieved_bounded f active h b y l = rw (h y l) (sieved_most (f y) active (state entry y) (b y l))

  -- recasting makes no state more than what it writes
  pub recast_bounded : (from to top most : ℕ) → Recast n from to entry exit → Bounded n top entry → top ≤ most → to ≤ most → Bounded n most exit
  unfolding Recast Became Bounded
  recast_bounded from to top most h b l m y k = rw (h y k) (recast_most from to (state entry y) top most (b y k) l m)

-- ---- from marks to states and back

-- what is active after deciding was active and passes
active_of : (a : Bool) (active s : ℕ) → eqb (sieved_of a active s) active ≡ (eqb s active && a)
active_of a active s = elim (eq_or_ne s active) [
  | inl q ↦ rw (sieved_hit a active s q, eq-eqb s active q) (by a)
  | inr q ↦ rw (sieved_miss a active s q, ne_eqb s active q)
]
  where
    by : (a : Bool) → eqb (cond a active (active + 1)) active ≡ a
    by true = eq-eqb active active refl
    by false = ne_eqb (active + 1) active (λ e. omega arith)

-- putting out the failing states, 3, leaves those active at the first level, 2
put_out_of : (s : ℕ) → eqb (recast_of 3 0 s) 2 ≡ eqb s 2
put_out_of s = elim (eq_or_ne s 3) [
  | inl q ↦ rw (recast_hit 3 0 s q, q)
  | inr q ↦ rw (recast_miss 3 0 s q)
]

-- and leaves none above it
put_out_most : (s : ℕ) → s ≤ 3 → recast_of 3 0 s ≤ 2
put_out_most s l = elim (eq_or_ne s 3) [
  | inl q ↦ rw (recast_hit 3 0 s q) (omega arith)
  | inr q ↦ rw (recast_miss 3 0 s q) (omega (arith, q))
]

module _ (n : ℕ) where
  -- failing states are put out, then a truth is decided at the first level
  pub thinned_state : (f : ℕ → Bool) (entry mid exit : List ℕ) → Recast n 3 0 entry mid → Sieved f 2 n mid exit → (y : ℕ) → y < n → eqb (state exit y) 2 ≡ (eqb (state entry y) 2 && f y)
  unfolding Recast Sieved Became
  thinned_state f entry mid exit out h y l = rw (h y l, active_of (f y) 2 (state mid y), out y l, put_out_of (state entry y))

  -- no failing state is left
  pub thinned_bounded : (entry mid : List ℕ) → Bounded n 3 entry → Recast n 3 0 entry mid → Bounded n 2 mid
  unfolding Recast Became Bounded
  thinned_bounded entry mid b out y l = rw (out y l) (put_out_most (state entry y) (b y l))

  module _ (marks : List Bool) (entry exit : List ℕ) (all : (y : ℕ) → y < n → state entry y ≡ 2) (h : Sieved (λ y. get_or marks y false) 2 n entry exit) where
    -- where all are active, those stay so that are marked
    pub settled_marks : (y : ℕ) → y < n → eqb (state exit y) 2 ≡ get_or marks y false
    unfolding Sieved Became
    settled_marks y l = rw (h y l, active_of (get_or marks y false) 2 (state entry y), all y l)

    -- nothing is above the failing states of the first level
    pub settled_bounded : Bounded n 3 exit
    settled_bounded = sieved_bounded n entry exit _ 2 h low
      where
        low : Bounded n 2 entry
        low = unfold Bounded in λ y l. rw (all y l) (omega arith)

  -- of the marked rows those stay marked at which g holds, where those are the active ones
  pub retained_marks : (g : ℕ → Bool) (states : List ℕ) (entry exit : List Bool) → Retained n 2 states entry exit → ((y : ℕ) → y < n → eqb (state states y) 2 ≡ (get_or entry y false && g y)) → (y : ℕ) → y < n
      → get_or exit y false ≡ (get_or entry y false && g y)
  unfolding Retained
  retained_marks g states entry exit h k y l = rw (h y l, k y l) (twice (get_or entry y false))
    where
      twice : (a : Bool) → (a && (a && g y)) ≡ (a && g y)
      twice true = refl
      twice false = refl

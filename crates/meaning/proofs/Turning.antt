-- Turning round: a turned path selects x from y exactly when the path selects y from x. A path whose steps do not count
-- selects y from x exactly when there is a chain of nodes between them; a chain read from its end is one of the turned path. Without
-- a step on the attribute axis no node of a chain is an attribute, and for such nodes axes have inverses.
-- Assumes nothing.
use Prim.Native.Nat.{ℕ, ◌<◌}
use mathlib.Core.Path.{◌≡◌, refl, sym, subst, ap, ◌∙◌}
use mathlib.Core.Bool.{Bool, true, false, ◌&&◌}
use mathlib.Core.List.{List}
use lib.ListN.{get_or-map, get_or-eq_default}
use lib.Dec.{T, eqb, eqb→eq, eqb_refl}
use lib.Ieee.{Float}
use Rattle.meaning.specs.Lists.{keep, some, has, up_to}
use Rattle.meaning.specs.Table.{rows, accepted}
use Rattle.meaning.specs.Axis.{axes, axis_of, last_axis, test_of, on, principal, passes}
use Rattle.meaning.specs.declared.Axis.TheVariants.{Itself}
use Rattle.meaning.specs.declared.Op.{Op}
use Rattle.meaning.specs.declared.Op.TheVariants.{Step}
use Rattle.meaning.specs.Tree.{Tree, none, node}
use Rattle.meaning.specs.Meaning.{is_absolute, start_of, select, walk}
use Rattle.meaning.specs.Turning.{counting, some_step, is_of_attributes, counts, of_attributes, inverses, inverse_of, predicates, test, back, turned}
use Rattle.meaning.proofs.Bools.{and_l, and_r, and_i, or_none_l, or_none_r, same, eq→eqb}
use Rattle.meaning.proofs.Lists.{some_to, some_from, has_keep_to, has_keep_from, has_up_to_to, has_up_to_from}
use Rattle.meaning.proofs.Places.{placed, placed_on}
use Rattle.meaning.proofs.Axes.{inverse, inverse_axis}
use Rattle.meaning.proofs.Tables.{Plain}
use Rattle.meaning.proofs.Decoding.{agree}
use Rattle.meaning.proofs.Attributes.{usual_step, stays_plain}
use Rattle.meaning.proofs.Free.{ok, fits, free_walk}

-- ---- which steps count

counting_last : (s : Tree) → counts s ≡ false → counting (predicates s) ≡ false
unfolding some_step counting predicates
counting_last none h = refl
counting_last (node op a b c d) h = or_none_r (counts a) (counting b) h

counts_back : (s done : Tree) → counts s ≡ false → counts done ≡ false → counts (back s done) ≡ false
unfolding some_step back
counts_back none done h k = k
counts_back (node op a b c d) done h k =
    let g : counts a ≡ false = or_none_l (counts a) (counting b) h in
    counts_back a (node Step done (predicates a) (inverse_of c) (test a)) g (rw (k, counting_last a g))

-- ---- inverse axes

-- the inverse axis's number is the number of the inverse axis
pub inverse_number : (n : ℕ) → axis_of (inverse_of n) ≡ inverse (axis_of n)
unfolding axis_of inverse_of inverse
inverse_number n = sym (get_or-map axis_of inverses n 0) ∙ get_or-map inverse axes n Itself

-- of two nodes that are no attributes one has a place on a usual axis of the other exactly if the other has one on the axis of the inverse
-- number of it
inverse_placed : (t : List ℕ) (c : ℕ) → principal (axis_of c) ≡ 1 → (x y : ℕ) → Plain t x → Plain t y → placed t (axis_of c) x y ≡ placed t (axis_of (inverse_of c)) y x
inverse_placed t c usual x y h k = rw (inverse_number c) (inverse_axis t (axis_of c) usual x y h k)

-- no inverse is the attribute axis
pub inverse_past : (c : ℕ) → 11 < c → inverse_of c ≡ 0
unfolding inverse_of
inverse_past c l = get_or-eq_default inverses 0 l

inverse_usual : (c : ℕ) → eqb (inverse_of c) last_axis ≡ false
unfolding inverse_of some up_to
inverse_usual = agree (λ c. eqb (inverse_of c) last_axis) (λ c. false) 12 refl (λ c h. rw (inverse_past c h))

usual_back : (s done : Tree) → of_attributes done ≡ false → of_attributes (back s done) ≡ false
unfolding some_step back
usual_back none done k = k
usual_back (node op a b c d) done k = usual_back a (node Step done (predicates a) (inverse_of c) (test a)) (rw (k, inverse_usual c))

-- ---- chains of nodes

-- the set of one node
abbrev start : List ℕ → ℕ → List ℕ
start t x = keep (eqb x) (up_to (rows t))

module _ (edition : ℕ) (t : List ℕ) (literals : List Float) where
  -- does a node pass the test, `*` and names for elements, and the predicates of a chain's last step?
  abbrev fit : Tree → ℕ → Bool
  fit s = fits edition t literals 1 (test_of (test s)) (predicates s)

  -- y is reached from x, the last step's test and predicates left out
  unfoldable Bare : Tree → ℕ → ℕ → Type 0
  Bare none x y = x ≡ y
  Bare (node op a b c d) x y = (w : ℕ) × Bare a x w × T (fit a w) × Plain t w × T (placed t (axis_of c) w y)

  -- y is reached from x
  abbrev Chain : Tree → ℕ → ℕ → Type 0
  Chain s x y = Bare s x y × T (fit s y) × Plain t y

  -- the last step of a chain that does not count, on a usual axis
  last_step : (op : Op) (a b : Tree) (c d : ℕ) → counts (node op a b c d) ≡ false → of_attributes (node op a b c d) ≡ false → (set : List ℕ)
      → walk edition t literals (node op a b c d) set ≡ keep (λ y. some (λ x. placed t (axis_of c) x y && fits edition t literals 1 (test_of d) b y) (walk edition t literals a set)) (up_to (rows t))
  unfolding some_step
  last_step op a b c d h u set =
      free_walk edition t literals op a b c d set (or_none_r (counts a) (counting b) h)
      ∙ ap (λ (k : ℕ). keep (λ y. some (λ x. placed t (axis_of c) x y && fits edition t literals k (test_of d) b y) (walk edition t literals a set)) (up_to (rows t))) (usual_step b c (or_none_r (of_attributes a) (is_of_attributes b c) u))

  -- what is selected from a node that is no attribute is reached by a chain, and the other way
  walk_to : accepted t ≡ true → (s : Tree) → counts s ≡ false → of_attributes s ≡ false → (x y : ℕ) → Plain t x → T (has (walk edition t literals s (start t x)) y) → Chain s x y
  unfolding walk Bare test predicates some_step ok passes test_of
  walk_to acc none h u x y p k =
      let r : T (eqb x y) × T (has (up_to (rows t)) y) = has_keep_to (eqb x) (up_to (rows t)) y k in
      let e : x ≡ y = eqb→eq x y r.0 in
      (e, tt, rw (← e) p)
  walk_to acc (node op a b c d) h u x y p k =
      let before : List ℕ = walk edition t literals a (start t x) in
      let reached : ℕ → ℕ → Bool = λ v z. placed t (axis_of c) z v && fits edition t literals 1 (test_of d) b v in
      let r : T (some (reached y) before) × T (has (up_to (rows t)) y) =
      has_keep_to (λ v. some (reached v) before) (up_to (rows t)) y (rw (last_step op a b c d h u (start t x)) at k) in
      let q : (z : ℕ) × T (reached y z) × T (has before z) = some_to (reached y) before r.0 in
      let i : Chain a x q.0 = walk_to acc a (or_none_l (counts a) (counting b) h) (or_none_l (of_attributes a) (is_of_attributes b c) u) x q.0 p q.2 in
      let o : Bool = placed t (axis_of c) q.0 y in
      let f : Bool = fit (node op a b c d) y in
      let low : y < rows t = has_up_to_to (rows t) y r.1 in
      let on-axis : T (placed t (axis_of c) q.0 y) = and_l o f q.1 in (
        (q.0, i.0, i.1, i.2, on-axis),
        and_r o f q.1,
        (
          low,
          stays_plain t acc (axis_of c) (usual_step b c (or_none_r (of_attributes a) (is_of_attributes b c) u)) q.0 y i.2 (rw (placed_on t (axis_of c) q.0 y low) at on-axis),
        ),
      )

  walk_from : (s : Tree) → counts s ≡ false → of_attributes s ≡ false → (x y : ℕ) → Chain s x y → T (has (walk edition t literals s (start t x)) y)
  unfolding walk Bare test predicates some_step
  walk_from none h u x y k = has_keep_from (eqb x) (up_to (rows t)) y (eq→eqb x y k.0) (has_up_to_from (rows t) y k.2.0)
  walk_from (node op a b c d) h u x y k =
      let before : List ℕ = walk edition t literals a (start t x) in
      let reached : ℕ → ℕ → Bool = λ v z. placed t (axis_of c) z v && fits edition t literals 1 (test_of d) b v in
      let m : Bare (node op a b c d) x y = k.0 in
      let i : T (has before m.0) = walk_from a (or_none_l (counts a) (counting b) h) (or_none_l (of_attributes a) (is_of_attributes b c) u) x m.0 (m.1, m.2, m.3) in
      let r : T (reached y m.0) = and_i (placed t (axis_of c) m.0 y) (fit (node op a b c d) y) m.4 k.1 in
      rw (last_step op a b c d h u (start t x))
      (has_keep_from (λ v. some (reached v) before) (up_to (rows t)) y (some_from (reached y) before m.0 r i) (has_up_to_from (rows t) y k.2.0))

  -- what the steps back reach behind `done` is a chain read from its end
  turn_to : (s done : Tree) → of_attributes s ≡ false → (y x : ℕ) → Chain (back s done) y x → (z : ℕ) × Chain done y z × Bare s x z
  unfolding back Bare test predicates some_step
  turn_to none done u y x k = (x, k, refl)
  turn_to (node op a b c d) done u y x k =
      let next : Tree = node Step done (predicates a) (inverse_of c) (test a) in
      let r : (w : ℕ) × Chain next y w × Bare a x w = turn_to a next (or_none_l (of_attributes a) (is_of_attributes b c) u) y x k in
      let m : Bare next y r.0 = r.1.0 in
      (m.0, (m.1, m.2, m.3), (r.0, r.2, r.1.1, r.1.2, subst T (sym (inverse_placed t c (usual_step b c (or_none_r (of_attributes a) (is_of_attributes b c) u)) r.0 m.0 r.1.2 m.3)) m.4))

  turn_from : (s done : Tree) → of_attributes s ≡ false → (y x z : ℕ) → Chain done y z → Bare s x z → Chain (back s done) y x
  unfolding back Bare test predicates some_step
  turn_from none done u y x z k e = subst (Chain done y) (sym e) k
  turn_from (node op a b c d) done u y x z k m =
      turn_from a (node Step done (predicates a) (inverse_of c) (test a)) (or_none_l (of_attributes a) (is_of_attributes b c) u) y x m.0
      ((z, k.0, k.1, k.2, subst T (inverse_placed t c (usual_step b c (or_none_r (of_attributes a) (is_of_attributes b c) u)) m.0 z m.3 k.2) m.4), m.2, m.3) m.1

-- ---- the turned path

-- the leading self step tests the node it starts from
abbrev first : Tree → Tree
first s = node Step none (predicates s) 0 (test s)

module _ (edition : ℕ) (t : List ℕ) (literals : List Float) (s : Tree) (u : of_attributes s ≡ false) where
  turned_to : (x y : ℕ) → Chain edition t literals s x y → Chain edition t literals (back s (first s)) y x
  unfolding Bare axis_of on passes test_of test predicates ok
  turned_to x y k = turn_from edition t literals s (first s) u y x y ((y, refl, tt, k.2, subst T (sym (placed_on t Itself y y k.2.0)) (eqb_refl y)), k.1, k.2) k.0

  turned_from : (x y : ℕ) → Chain edition t literals (back s (first s)) y x → Chain edition t literals s x y
  unfolding Bare axis_of on test predicates
  turned_from x y k =
      let r : (z : ℕ) × Chain edition t literals (first s) y z × Bare edition t literals s x z = turn_to edition t literals s (first s) u y x k in
      let m : Bare edition t literals (first s) y r.0 = r.1.0 in
      subst (Chain edition t literals s x) (sym (m.1 ∙ eqb→eq m.0 r.0 (subst T (placed_on t Itself m.0 r.0 r.1.2.0) m.4))) (r.2, r.1.1, r.1.2)

-- a relative path walks from the given node
select_relative : (edition : ℕ) (t : List ℕ) (literals : List Float) (op : Op) (s b : Tree) (c d x : ℕ) → is_absolute op ≡ false → select edition t literals (node op s b c d) x ≡ walk edition t literals s (start t x)
unfolding select start_of
select_relative edition t literals op s b c d x relative = rw relative

-- for nodes that are no attributes of an accepted table, a turned path whose steps do not count and are not on the attribute axis selects x
-- from y exactly when the path selects y from x
pub turned_selects_back : (edition : ℕ) (t : List ℕ) (literals : List Float) (op : Op) (s b : Tree) (c d : ℕ) → is_absolute op ≡ false → counts s ≡ false → of_attributes s ≡ false
    → accepted t ≡ true → (x y : ℕ) → Plain t x → Plain t y → has (select edition t literals (node op s b c d) x) y ≡ has (select edition t literals (turned (node op s b c d)) y) x
unfolding turned some_step
turned_selects_back edition t literals op s b c d relative free usual acc x y h k =
    let steps_back : Tree = back s (first s) in
    let free_back : counts steps_back ≡ false = counts_back s (first s) free (counting_last s free) in
    let usual-steps : of_attributes steps_back ≡ false = usual_back s (first s) refl in
    ap (λ (l : List ℕ). has l y) (select_relative edition t literals op s b c d x relative)
    ∙ same (has (walk edition t literals s (start t x)) y) (has (walk edition t literals steps_back (start t y)) x)
    (λ m. walk_from edition t literals steps_back free_back usual-steps y x (turned_to edition t literals s usual x y (walk_to edition t literals acc s free usual x y h m)))
    (λ m. walk_from edition t literals s free usual x y (turned_from edition t literals s usual x y (walk_to edition t literals acc steps_back free_back usual-steps y x k m)))
    ∙ sym (ap (λ (l : List ℕ). has l x) (select_relative edition t literals op steps_back none 0 0 y relative))

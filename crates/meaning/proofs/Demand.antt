-- Demand 3, of rows: a path that is turned gives rows that are accepted, one more than it has, and for nodes that are no attributes of an
-- accepted table they select x from y exactly where the path selects y from x. The turned tree is tidy and made by the rules as the path's
-- own is, so its written rows are accepted and read back as it; what it selects is the law of trees.
-- Assumes nothing.
use Prim.Native.Nat.{ℕ, zero, suc, ◌+◌, ◌-◌, ◌*◌, ◌≤◌}
use mathlib.Core.Path.{◌≡◌, refl, sym, subst, ap, ◌∙◌}
use mathlib.Core.Logic.{inl, inr}
use mathlib.Core.Bool.{Bool, true, false, ◌&&◌, ◌||◌, not, cond}
use mathlib.Core.List.{List}
use lib.ListN.{length}
use lib.Dec.{T, leb, ltb, eqb, eqb→eq, eqb-suc-zero}
use lib.Ieee.{Float}
use native.Mathlib.Omega.{arith}
use borrow.Author.Tests.{lt-ltb}
use Rattle.meaning.specs.Lists.{up_to, some, has}
use Rattle.meaning.specs.Table.{accepted}
use Rattle.meaning.specs.Axis.{last_axis}
use Rattle.meaning.specs.declared.Op.{Op}
use Rattle.meaning.specs.declared.Op.TheVariants.{Relative, Step}
use Rattle.meaning.specs.declared.Field.TheVariants.{PredicateOrNone, StepLink, StepOrNone}
use Rattle.meaning.specs.Rows.{op_of, op_at, code, fields_of, is_literal, is_step, is_path, is_link, is_unknown, may_miss, takes, good_test, good_field, first_link, second_link, rows_of, most_path_rows}
use Rattle.meaning.specs.Tree.{Tree, none, node, index_or_axis, test_at, tree, depth}
use Rattle.meaning.specs.Meaning.{is_absolute, start_of, select}
use Rattle.meaning.specs.Turning.{steps, some_step, first_step, is_counting, is_of_attributes, counts, of_attributes, inverse_of, predicates, test, back, turned, weight, written}
use Rattle.meaning.specs.Answers.{answer, path_tree, path_answer, selected, counting_step, attribute_step, absolute_path, turning, turned_rows}
use Rattle.meaning.specs.declared.Answer.{Answer}
use Rattle.meaning.proofs.Bools.{and_l, and_r, and_i, or_e, is_true, truly, untrue, not_false, lt_or_ge}
use Rattle.meaning.proofs.Lists.{below_none}
use Rattle.meaning.proofs.Trees.{tree_row}
use Rattle.meaning.proofs.Ops.{op_code, step_is}
use Rattle.meaning.proofs.Exactly.{AcceptedPath, GoodPath, Turns, TurningGives, refused, step_counts, of_attributes_lem, absolute, no_room, turns, refused_path, check_path_exactly, refused_exactly}
use Rattle.meaning.proofs.Paths.{some_path_row, top_is_path, all_rows}
use Rattle.meaning.proofs.ReadBack.{Tidy, tree_tidy, length_written, written_rows, written_reads_back}
use Rattle.meaning.proofs.Tables.{Plain}
use Rattle.meaning.proofs.Attributes.{start_plain, walk_stays_plain}
use Rattle.meaning.proofs.Turning.{inverse_past, turned_selects_back}
use Rattle.meaning.proofs.Made.{Made, made, good_child, good_held, good_node}
use Rattle.meaning.proofs.Block.{written_accepted}

-- ---- a path that is turned

-- turning gives 0 only to such a path
zero_turns : (p : List ℕ) (literals : List Float) (room : ℕ) {a : Answer} → TurningGives p literals room a → a.number ≡ 0 → Turns p literals room
zero_turns p literals room (refused r) e = absurd (refused_path r e)
zero_turns p literals room (step_counts g n) e = absurd (omega arith)
zero_turns p literals room (of_attributes_lem g n h) e = absurd (omega arith)
zero_turns p literals room (absolute g n m r) e = absurd (omega arith)
zero_turns p literals room (no_room g n m r f) e = absurd (omega arith)
zero_turns p literals room (turns h) e = h

first_one : (r : ℕ) (k : Bool) (n : ℕ) → ltb 0 (cond (eqb r 0) (cond k (n + 1) 0) r) ≡ (ltb 0 r || k)
first_one zero true n = lt-ltb 0 (n + 1) (omega arith)
first_one zero false n = refl
first_one (suc r) k n = rw (eqb-suc-zero, lt-ltb 0 (suc r) (omega arith))

-- a step fits exactly where there is a first one that does
pub first_step_lem : (fit : Tree → ℕ → Bool) (s : Tree) → ltb 0 (first_step fit s) ≡ some_step fit s
unfolding first_step some_step
first_step_lem fit none = refl
first_step_lem fit (node op a b c d) = first_one (first_step fit a) (fit b c) (steps a) ∙ ap (λ (v : Bool). v || fit b c) (first_step_lem fit a)

-- ---- the turned tree

tidy_predicates : (s : Tree) → Tidy s → Tidy (predicates s)
unfolding predicates
tidy_predicates none h = tt
tidy_predicates (node op a b c d) h = h.5

tidy_step : (a done : Tree) (c : ℕ) → Tidy a → Tidy done → Tidy (node Step done (predicates a) c (test a))
unfolding fields_of is_link is_literal is_step code
tidy_step a done c h k = (refl, refl, refl, refl, k, tidy_predicates a h)

tidy_back : (s done : Tree) → Tidy s → Tidy done → Tidy (back s done)
unfolding back
tidy_back none done h k = k
tidy_back (node op a b c d) done h k = tidy_back a (node Step done (predicates a) (inverse_of c) (test a)) h.4 (tidy_step a done (inverse_of c) h.4 k)

-- the rows of the steps back: a chain's own but for the last step's predicates
pub weight_back : (s done : Tree) → weight (back s done) + weight (predicates s) ≡ weight done + weight s
unfolding back weight predicates
weight_back none done = refl
weight_back (node op a b c d) done = omega (arith, weight_back a (node Step done (predicates a) (inverse_of c) (test a)))

depth_predicates : (s : Tree) → depth (predicates s) ≤ depth s
unfolding depth predicates
depth_predicates none = omega arith
depth_predicates (node op a b c d) = omega arith

depth_back : (s done : Tree) (k : ℕ) → depth s ≤ k → depth done ≤ k → depth (back s done) ≤ k
unfolding depth back is_path code
depth_back none done k h m = m
depth_back (node op a b c d) done k h m = depth_back a (node Step done (predicates a) (inverse_of c) (test a)) k (omega arith) (omega (arith, depth_predicates a))

-- an inverse axis is an axis
axis_back : (c : ℕ) → T (leb (inverse_of c) last_axis)
unfolding inverse_of some up_to
axis_back c = elim (lt_or_ge c 12) [
  | inl l ↦ not_false (leb (inverse_of c) last_axis) (below_none (λ c. not (leb (inverse_of c) last_axis)) 12 refl c l)
  | inr l ↦ rw (inverse_past c l) tt
]

-- the first step of a turned chain: self with the last step's test and predicates
unfoldable self_step : Tree → Tree
self_step s = node Step none (predicates s) 0 (test s)

-- a turned path is tidy, has one row more and is no deeper
module _ (s b : Tree) (c d : ℕ) where
  tidy_turned : Tidy (node Relative s b c d) → Tidy (turned (node Relative s b c d))
  unfolding turned fields_of is_link is_literal is_step code self_step
  tidy_turned h = (refl, refl, refl, refl, tidy_back s (self_step s) h.4 (tidy_step s none 0 h.4 tt), tt)

  weight_turned : Tidy (node Relative s b c d) → weight (turned (node Relative s b c d)) ≡ weight (node Relative s b c d) + 1
  unfolding turned weight fields_of is_link self_step
  weight_turned h = omega (arith, weight_back s (self_step s), ap weight h.1)

  depth_turned : depth (turned (node Relative s b c d)) ≤ depth (node Relative s b c d)
  unfolding turned depth is_path code self_step
  depth_turned = omega (arith, depth_back s (self_step s) (depth s) (omega arith) (omega (arith, depth_predicates s)))

-- what the rules say of a step behind the chain a, with predicates b and test d
record GoodStep (a b : Tree) (d : ℕ) : Type 0 where
  chain : T (good_child StepOrNone a)
  kept : T (good_child PredicateOrNone b)
  tested : T (good_test d)

module _ (literals : ℕ) where
  good_step : (op : Op) (a b : Tree) (c d : ℕ) → T (good_child StepOrNone (node op a b c d)) → Made literals (node op a b c d) → GoodStep a b d
  unfolding good_child takes good_node good_held fields_of is_link is_literal code good_field
  good_step op a b c d k h =
      let g : T (good_node literals Step a b c d) = subst (λ (o : Op). T (good_node literals o a b c d)) (step_is op (is_true (is_step op) k)) h.1 in
      let x : T (good_child StepOrNone a) = search (and_l, and_r) in
      let y : T (good_child PredicateOrNone b) = search (and_l, and_r) in
      let z : T (good_test d) = search (and_l, and_r) in
      record { chain = x; kept = y; tested = z }

  -- one more step of a turned path
  made_step : (a done : Tree) (c : ℕ) → Made literals a → T (good_child StepOrNone a) → T (leb c last_axis) → Made literals done → T (good_child StepOrNone done)
      → Made literals (node Step done (predicates a) c (test a))
  unfolding good_node good_held fields_of is_link is_literal is_unknown code good_field predicates test good_child may_miss good_test
  made_step none done c h k l md gd =
      (refl, and_i (good_child StepOrNone done && true && leb c last_axis) true (and_i (good_child StepOrNone done && true) (leb c last_axis) (and_i (good_child StepOrNone done) true gd tt) l) tt, md, tt)
  made_step (node op a b c₀ d) done c h k l md gd =
      let s : GoodStep a b d = good_step op a b c₀ d k h in
      let P : Bool = good_child PredicateOrNone b in (
        refl,
        and_i (good_child StepOrNone done && P && leb c last_axis) (good_test d) (and_i (good_child StepOrNone done && P) (leb c last_axis) (and_i (good_child StepOrNone done) P gd s.kept) l) s.tested,
        md,
        h.3,
      )

  -- a chain that must be there may be there
  chain_there : (s : Tree) → T (good_child StepLink s) → T (good_child StepOrNone s)
  unfolding good_child takes may_miss
  chain_there none h = absurd h
  chain_there (node op a b c d) h = h

  step_there : (a b : Tree) (c d : ℕ) → T (good_child StepLink (node Step a b c d))
  unfolding good_child takes is_step code
  step_there a b c d = tt

  made_back : (s done : Tree) → Made literals s → T (good_child StepOrNone s) → Made literals done → T (good_child StepLink done) → Made literals (back s done) × T (good_child StepLink (back s done))
  unfolding back
  made_back none done h k md gd = (md, gd)
  made_back (node op a b c d) done h k md gd =
      let g : T (good_child StepOrNone a) = (good_step op a b c d k h).chain in
      made_back a (node Step done (predicates a) (inverse_of c) (test a)) h.2 g
      (made_step a done (inverse_of c) h.2 g (axis_back c) md (chain_there done gd)) (step_there done (predicates a) (inverse_of c) (test a))

  made_turned : (s b : Tree) (c d : ℕ) → Made literals (node Relative s b c d) → Made literals (turned (node Relative s b c d))
  unfolding turned self_step good_node good_held fields_of is_link is_literal is_unknown code good_field good_child may_miss
  made_turned s b c d h =
      let g : T (good_node literals Relative s b c d) = h.1 in
      let x : T (good_child StepLink s) = search (and_l, and_r) in
      let k : T (good_child StepOrNone s) = chain_there s x in
      let r : Made literals (back s (self_step s)) × T (good_child StepLink (back s (self_step s))) =
      made_back s (self_step s) h.2 k (made_step s none 0 h.2 k tt tt tt) (step_there none (predicates s) 0 (test s)) in
      let y : Bool = good_child StepLink (back s (self_step s)) in
      (refl, and_i (y && true && true) true (and_i (y && true) true (and_i y true r.1 tt) tt) tt, r.0, tt)

-- ---- the turned rows

-- rows q are the path p turned round, beside the same literals: for nodes that are no attributes
pub record Round (p q : List ℕ) (literals : List Float) : Type 0 where
  pub fit : AcceptedPath q (length literals)
  pub answered : path_answer q literals ≡ answer 0 (rows_of p + 1)
  pub one_more : rows_of q ≡ rows_of p + 1
  pub five_a_row : length q ≡ 5 * (rows_of p + 1)
  pub read : path_tree q ≡ turned (path_tree p)
  pub round : (edition : ℕ) (t : List ℕ) → accepted t ≡ true → (x y : ℕ) → Plain t x → Plain t y → has (selected edition t p literals x) y ≡ has (selected edition t q literals y) x

-- a path that is not absolute is relative
pub relative_is : (op : Op) → is_path op ≡ true → is_absolute op ≡ false → op ≡ Relative
unfolding is_path is_absolute op_of
relative_is op h k = or_e (eqb (code op) 22) (eqb (code op) 23) (truly h)
    (λ e. sym (op_code op) ∙ ap op_of (eqb→eq (code op) 22 e))
    (λ e. absurd (untrue k e))

module _ (p : List ℕ) (literals : List Float) where
  round_of : (s b : Tree) (c d : ℕ) → path_tree p ≡ node Relative s b c d → counts s ≡ false → of_attributes s ≡ false → rows_of p + 1 ≤ most_path_rows
      → GoodPath p literals → Round p (turned_rows p) literals
  unfolding turned is_path is_absolute code self_step
  round_of s b c d e none-counts none-of-attributes few good =
      let acc : AcceptedPath p (length literals) = good.0 in
      let E : Tree = node Relative s b c d in
      let q : List ℕ = written 0 (turned E) in
      let tidy : Tidy E = subst Tidy e (tree_tidy p (rows_of p)) in
      let tidy-q : Tidy (turned E) = tidy_turned s b c d tidy in
      let w : weight (turned E) ≡ rows_of p + 1 = omega (arith, weight_turned s b c d tidy, ap weight e, all_rows p (length literals) acc) in
      let n : rows_of q ≡ rows_of p + 1 = written_rows (turned E) ∙ w in
      let fit : AcceptedPath q (length literals) =
      written_accepted (length literals) Relative (back s (self_step s)) none 0 0 tidy-q
      (made_turned (length literals) s b c d (subst (Made (length literals)) e (made p (length literals) acc))) refl
      (omega arith) (omega (arith, depth_turned s b c d, ap depth e, acc.shallow)) in
      let read : path_tree q ≡ turned E = ap (tree q) (written_rows (turned E)) ∙ written_reads_back (turned E) tidy-q in
      rw e (record {
        fit = fit;
        answered = (check_path_exactly q literals (answer 0 (rows_of p + 1))).1 (inr ((fit, good.1), ap (answer 0) (sym n)));
        one_more = n;
        five_a_row = omega (arith, length_written 0 (turned E));
        read = read ∙ ap turned (sym e);
        round = λ edition t acc x y h k. rw (e, read) (turned_selects_back edition t literals Relative s b c d refl none-counts none-of-attributes acc x y h k);
      })

  -- demand 3: where turning gives 0, the turned rows are the path turned round
  pub demand_three : (room : ℕ) → (turning p literals room).number ≡ 0 → Round p (turned_rows p) literals
  unfolding absolute_path counting_step attribute_step
  demand_three room given =
      let h : Turns p literals room = zero_turns p literals room ((refused_exactly p literals room (turning p literals room)).0 refl) given in
      let r : ℕ = rows_of p - 1 in
      let s : Tree = tree p (first_link p r) in
      let b : Tree = tree p (second_link p r) in
      let e : path_tree p ≡ node (op_at p r) s b (index_or_axis p r) (test_at p r) =
      tree_row p (rows_of p) (λ z. omega (arith, some_path_row p (length literals) h.good.0)) in
      let o : op_at p r ≡ Relative = relative_is (op_at p r) (top_is_path p (length literals) h.good.0) (sym (ap absolute_path e) ∙ h.not_absolute) in
      let k : counts s ≡ false = sym (first_step_lem is_counting s) ∙ ap (ltb 0) (sym (ap counting_step e) ∙ h.none_counts) in
      let u : of_attributes s ≡ false = sym (first_step_lem is_of_attributes s) ∙ ap (ltb 0) (sym (ap attribute_step e) ∙ h.none_of_attributes) in
      round_of s b (index_or_axis p r) (test_at p r) (e ∙ ap (λ (v : Op). node v s b (index_or_axis p r) (test_at p r)) o) k u h.few h.good

-- why demand 3 leaves attributes out and loses nothing: without a top-level step on the attribute axis a path selects from a node that is no
-- attribute none that is one, whatever it counts and wherever it starts
pub selects_no_attribute : (p : List ℕ) (literals : List Float) → attribute_step (path_tree p) ≡ 0 → (edition : ℕ) (t : List ℕ) → accepted t ≡ true → (x : ℕ) → Plain t x
    → (y : ℕ) → T (has (selected edition t p literals x) y) → Plain t y
selects_no_attribute p literals = by (path_tree p)
  where
    by : (s : Tree) → attribute_step s ≡ 0 → (edition : ℕ) (t : List ℕ) → accepted t ≡ true → (x : ℕ) → Plain t x → (y : ℕ) → T (has (select edition t literals s x) y) → Plain t y
    by none e edition t acc x h y k = absurd (unfold select some in k)
    by (node op a b c d) e edition t acc x h y k = walk_stays_plain t acc edition literals a usual (start_of t op x) from_plain y (unfold select in k)
      where
        usual : of_attributes a ≡ false
        usual =
            let z : first_step is_of_attributes a ≡ 0 = unfold attribute_step in e in
            sym (first_step_lem is_of_attributes a) ∙ ap (ltb 0) z

        from_plain : (z : ℕ) → T (has (start_of t op x) z) → Plain t z
        from_plain z m = start_plain t acc (is_absolute op) x h z (unfold start_of in m)

-- where the turned rows are turned again, the rows turned twice select y from x exactly when the path does, on every accepted table and
-- for nodes that are no attributes
pub turned_twice : (p : List ℕ) (literals : List Float) (room again : ℕ) → (turning p literals room).number ≡ 0 → (turning (turned_rows p) literals again).number ≡ 0
    → (edition : ℕ) (t : List ℕ) → accepted t ≡ true → (x y : ℕ) → Plain t x → Plain t y → has (selected edition t (turned_rows (turned_rows p)) literals x) y ≡ has (selected edition t p literals x) y
turned_twice p literals room again given given-again edition t acc x y h k =
    sym ((demand_three p literals room given).round edition t acc x y h k ∙ (demand_three (turned_rows p) literals again given-again).round edition t acc y x k h)
